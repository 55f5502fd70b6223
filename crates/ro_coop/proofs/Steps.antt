-- The steps of a core are as many as its journal's first steps, races or not: what a replica has taken of a thread is what it retired of it and what events added, which is the same in each.
use Rattle.std.specs.Prelude.{◌≡◌, ◌≢◌, ◌⊎◌, ℕ, zero, suc, ◌+◌, ◌-◌, ◌≤◌, max, Bool, true, false, cond, ◌==◌, List, [], ◌∷◌, ◌++◌, length, map, replicate, Option, Some, None, slice_get, slice_set}
use Rattle.std.specs.Option.{option_map, option_map_or}
use Rattle.std.proofs.Common.{refl, sym, ap, ◌∙◌, subst, arith, inl, inr, length-append}
use Rattle.std.proofs.lemmas.Bool.{false≢true, eqb-true, eq-eqb, cases_eq}
use Rattle.std.proofs.lemmas.List.{length-replicate}
use Rattle.std.proofs.lemmas.List.Sums.{sum_by-cons}
use Rattle.std.proofs.lemmas.Option.{option_and_then_some}
use Rattle.ro_event.specs.declared.calls.Call.{Call}
use Rattle.ro_event.specs.declared.calls.Which.{Which}
use Rattle.ro_event.specs.declared.calls.Which.TheVariants.{System, Function, Atomic}
use Rattle.ro_event.specs.declared.effects.Made.{Made}
use Rattle.ro_event.specs.declared.stops.Stop.{Stop}
use Rattle.ro_event.specs.declared.stops.Stop.TheVariants.{Calls}
use Rattle.ro_event.specs.Effects.{Effect}
use Rattle.ro_journal.specs.declared.Did.{Did}
use Rattle.ro_journal.specs.declared.How.{How}
use Rattle.ro_journal.specs.declared.Lease.{Lease}
use Rattle.ro_journal.specs.declared.Entry.{Entry}
use Rattle.ro_journal.specs.declared.Entry.TheVariants.{Take, Put, Part, Vote, Free, Scrub, End}
use Rattle.ro_journal.specs.Counts.{hits_of, struck_in}
use Rattle.ro_journal.specs.Plan.{event_steps}
use Rattle.ro_exec.specs.Next.{Layout}
use Rattle.ro_kernel.specs.Kernel.{Setup, Kernel, released}
use Rattle.ro_kernel.specs.Serve.{Served, Done, Ends, serve_by, serve_which, serve, is_served, serves}
use Rattle.ro_kernel.proofs.Kept.{IsServed, atomic-served, slice_get-set_other}
use Rattle.ro_thread.specs.declared.Thread.{Thread}
use Rattle.ro_replica.specs.Replica.{Replica, opening_replica, changed_at, thread_after, with_made, without_cancelled, applied, cancelled}
use Rattle.ro_replica.specs.Runs.{with_stop}
use Rattle.ro_plain.specs.Machine.{setup_of}
use Rattle.ro_plain.proofs.Calls.{some-injective}
use Rattle.ro_orders.specs.Turns.{times}
use Rattle.ro_orders.specs.Choices.{chosen_of}
use Rattle.ro_orders.specs.Copies.{Rows}
use Rattle.ro_orders.proofs.Copies.{times-append}
use Rattle.ro_orders.proofs.Owners.{differs}
use Rattle.ro_peer.specs.declared.mutexes.Mutex.{Mutex}
use Rattle.ro_peer.specs.Peers.{Peer, leased, leased_run}
use Rattle.ro_peer.specs.Gets.{Get, asker}
use Rattle.ro_peer.specs.Events.{without_own}
use Rattle.ro_legal.specs.Core.{Job as Asked, Core as Run, opening_replicas, opening_core as opening_voted}
use Rattle.ro_legal.specs.declared.parkings.Parking.{Parking}
use Rattle.ro_legal.specs.Sides.{Side}
use Rattle.ro_legal.specs.Event.{Event, call_event}
use Rattle.ro_legal.specs.Cooperative as rules
use Rattle.ro_legal.proofs.Effects.{backed_after, threads_after}
use Rattle.ro_legal.proofs.Lists.{get-set-same}
use Rattle.ro_legal.proofs.Ordered.{get-opening, free-parts, freed-is, freed-steps}
use Rattle.ro_legal.proofs.TogetherRuns.{GoesOn, moved, goes-on, LentParts, lent-parts}
use Rattle.ro_legal.proofs.TogetherCounts.{most-least}
use Rattle.ro_coop.specs.Core.{first_run, Steps, served_all, lease_steps, steps_after, steps_from, first_of}
use Rattle.ro_coop.proofs.Counts.{count-other, count-own}
use Rattle.ro_coop.proofs.Rules.{released-twice, as-many-after, nothing, opening-many}

-- ---- the first steps of a lease

-- what a thread's run, up to so many steps of it in a replica, adds to the first steps
record FirstRun (t most : ℕ) (first after : List ℕ) : Type 0 where
  others : (u : ℕ) → u ≢ t → times u after ≡ times u first
  own : times t after ≡ max (times t first) most
  longer : length after + times t first ≡ length first + times t after

first-runs : (t n : ℕ) (first taken : List ℕ) → times t taken ≤ times t first → FirstRun t (times t taken + n) first (first_run t n first taken)
first-runs t zero first taken behind = record { others = λ u d. refl; own = omega arith; longer = refl }
first-runs t (suc n) first taken behind = by (times t first == times t taken) refl (λ f. first-runs t n f (taken ++ t ∷ []))
  where
    one-taken : times t (taken ++ t ∷ []) ≡ suc (times t taken)
    one-taken = count-own t taken

    by : (b : Bool) → (times t first == times t taken) ≡ b → ((f : List ℕ) → times t (taken ++ t ∷ []) ≤ times t f → FirstRun t (times t (taken ++ t ∷ []) + n) f (first_run t n f (taken ++ t ∷ [])))
        → FirstRun t (times t taken + suc n) first (first_run t n (cond b (first ++ t ∷ []) first) (taken ++ t ∷ []))
    by true e later =
        let same = eqb-true _ _ e in
        let one = count-own t first in
        let more = one-taken in
        let long = length-append first (t ∷ []) in
        let rest = later (first ++ t ∷ []) (omega arith) in
        let own = rest.own in
        let longer = rest.longer in
        record { others = λ u d. rest.others u d ∙ count-other t u first d; own = omega arith; longer = omega arith }
    by false e later =
        let apart : times t first ≢ times t taken = λ s. false≢true (sym e ∙ eq-eqb _ _ s) in
        let more = one-taken in
        let rest = later first (omega arith) in
        let own = rest.own in
        record { others = rest.others; own = omega arith; longer = rest.longer }

own-replicated : (t n : ℕ) → times t (replicate n t) ≡ n
own-replicated t zero = refl
own-replicated t (suc n) = ap (λ (b : Bool). cond b 1 0 + times t (replicate n t)) (eq-eqb t t refl) ∙ (let rest = own-replicated t n in omega arith)

none-replicated : (t u n : ℕ) → u ≢ t → times u (replicate n t) ≡ 0
none-replicated t u zero d = refl
none-replicated t u (suc n) d = ap (λ (b : Bool). cond b 1 0 + times u (replicate n t)) (differs t u (λ e. d (sym e))) ∙ (let rest = none-replicated t u n d in omega arith)

-- ---- what an event retires: nothing

abbrev done_at : List Thread → (u : ℕ) → ℕ
done_at threads u = option_map_or (λ (t : Thread). t.done) (slice_get threads u) 0

done-mapped : (f : Thread → Thread) → ((x : Thread) → (f x).done ≡ x.done) → (threads : List Thread) (u : ℕ) → done_at (map f threads) u ≡ done_at threads u
done-mapped f same [] u = refl
done-mapped f same (x ∷ threads) zero = same x
done-mapped f same (x ∷ threads) (suc u) = done-mapped f same threads u

done-changed : (f : Thread → Thread) → ((x : Thread) → (f x).done ≡ x.done) → (threads : List Thread) (t u : ℕ) → done_at (changed_at f threads t) u ≡ done_at threads u
done-changed f same [] t u = refl
done-changed f same (x ∷ threads) zero zero = same x
done-changed f same (x ∷ threads) zero (suc u) = refl
done-changed f same (x ∷ threads) (suc t) zero = refl
done-changed f same (x ∷ threads) (suc t) (suc u) = done-changed f same threads t u

done-more : (new : Thread) → new.done ≡ 0 → (threads : List Thread) (u : ℕ) → done_at (threads ++ new ∷ []) u ≡ done_at threads u
done-more new none [] zero = none
done-more new none [] (suc u) = refl
done-more new none (x ∷ threads) zero = refl
done-more new none (x ∷ threads) (suc u) = done-more new none threads u

done-made : (made : Option Made) (threads : List Thread) (u : ℕ) → done_at (with_made made threads) u ≡ done_at threads u
done-made None threads u = refl
done-made (Some made) [] u = refl
done-made (Some made) (x ∷ threads) u = done-more _ refl (x ∷ threads) u

done-event : (effect : Effect) (entered : List Mutex) (side : Side) (replica : Replica) (u : ℕ) → rules.done_in (rules.replica_after effect entered side replica) u ≡ rules.done_in replica u
unfolding applied cancelled
done-event effect entered side replica u =
    done-mapped (without_own (side.mutexes ++ entered)) (λ x. refl) (map (without_cancelled (backed_after effect replica.backed)) (threads_after effect replica.threads)) u
    ∙ (done-mapped (without_cancelled (backed_after effect replica.backed)) (λ x. refl) (threads_after effect replica.threads) u
    ∙ (done-made effect.made (changed_at (thread_after effect) replica.threads effect.thread) u
    ∙ done-changed (thread_after effect) (λ x. refl) replica.threads effect.thread u))

-- ---- what each replica has retired of a thread

abbrev done_of : List Replica → (number u : ℕ) → ℕ
done_of replicas number u = option_map_or (λ (r : Replica). rules.done_in r u) (slice_get replicas number) 0

done-after : (effect : Effect) (entered : List Mutex) (replicas : List Replica) (sides : List Side) → length sides ≡ length replicas → (number u : ℕ) → done_of (rules.replicas_after effect entered replicas sides) number u ≡ done_of replicas number u
done-after effect entered [] sides many number u = refl
done-after effect entered (r ∷ replicas) [] many number u = absurd (omega arith)
done-after effect entered (r ∷ replicas) (s ∷ sides) many zero u = done-event effect entered s r u
done-after effect entered (r ∷ replicas) (s ∷ sides) many (suc number) u = done-after effect entered replicas sides (omega arith) number u

most-after : (effect : Effect) (entered : List Mutex) (replicas : List Replica) (sides : List Side) → length sides ≡ length replicas → (u : ℕ) → rules.most_done (rules.replicas_after effect entered replicas sides) u ≡ rules.most_done replicas u
most-after effect entered [] sides many u = refl
most-after effect entered (r ∷ replicas) [] many u = absurd (omega arith)
most-after effect entered (r ∷ replicas) (s ∷ sides) many u =
    ap (λ (n : ℕ). max n (rules.most_done (rules.replicas_after effect entered replicas sides) u)) (done-event effect entered s r u)
    ∙ ap (λ (n : ℕ). max (rules.done_in r u) n) (most-after effect entered replicas sides (omega arith) u)

-- where one of them retires more
most-set : (replicas : List Replica) (n : ℕ) (old came : Replica) (u : ℕ) → slice_get replicas n ≡ Some old → rules.done_in old u ≤ rules.done_in came u → rules.most_done (slice_set replicas n came) u ≡ max (rules.most_done replicas u) (rules.done_in came u)
most-set [] n old came u e more = absurd (let f : None ≡ Some old = e in cc)
most-set (r ∷ replicas) zero old came u e more =
    let same : rules.done_in r u ≡ rules.done_in old u = ap (λ (x : Replica). rules.done_in x u) (some-injective e) in
    omega arith
most-set (r ∷ replicas) (suc n) old came u e more = let rest = most-set replicas n old came u e more in omega arith

most-has : (replicas : List Replica) (n u : ℕ) → done_of replicas n u ≤ rules.most_done replicas u
most-has [] n u = omega arith
most-has (r ∷ replicas) zero u = omega arith
most-has (r ∷ replicas) (suc n) u = let rest = most-has replicas n u in omega arith

-- ---- what a lease retires: its steps, of its thread

record Retires (number count : ℕ) (before after : Replica) : Type 0 where
  others : (u : ℕ) → u ≢ number → rules.done_in after u ≡ rules.done_in before u
  own : rules.done_in after number ≡ rules.done_in before number + count

step-retires : (watchdog number : ℕ) (before after : Replica) → GoesOn watchdog number before after → Retires number 1 before after
step-retires watchdog number before after step = record {
  others = λ u d. ap (λ (ts : List Thread). done_at ts u) step.threads_are
      ∙ ap (λ (o : Option Thread). option_map_or (λ (t : Thread). t.done) o 0) (slice_get-set_other before.threads number u (moved step.thread step.cpu) (λ e. d (sym e)));
  own = ap (λ (ts : List Thread). done_at ts number) step.threads_are
      ∙ (ap (λ (o : Option Thread). option_map_or (λ (t : Thread). t.done) o 0) (get-set-same before.threads number step.thread (moved step.thread step.cpu) step.there)
      ∙ ap (λ (o : Option Thread). option_map_or (λ (t : Thread). t.done) o 0 + 1) (sym step.there));
}

run-retires : (layout : Layout) (rows : Rows) (watchdog number n : ℕ) (peer last : Peer) → leased_run layout rows watchdog n peer number ≡ Some last → Retires number n peer.replica last.replica
run-retires layout rows watchdog number zero peer last e =
    let same : peer ≡ last = some-injective e in
    subst (λ (p : Peer). Retires number 0 peer.replica p.replica) same (record { others = λ u d. refl; own = omega arith })
run-retires layout rows watchdog number (suc n) peer last e =
    option_and_then_some (λ mid. leased_run layout rows watchdog n mid number) (leased layout rows watchdog peer number) last e (λ mid f g.
    let one = step-retires watchdog number peer.replica mid.replica (goes-on layout rows watchdog peer number mid f) in
    let rest = run-retires layout rows watchdog number n mid last g in
    let first = one.own in
    let later = rest.own in
    record { others = λ u d. rest.others u d ∙ one.others u d; own = omega arith })

-- ---- along a journal

-- What a replica has taken of a thread is what it retired of it, and what events added; and so are the first steps, of the one that retired most.
record AreFirst (core : Run) (s : Steps) : Type 0 where
  as_many : length core.sides ≡ length core.replicas
  added : ℕ → ℕ
  taken : (number u : ℕ) → times u (s.taken number) ≡ done_of core.replicas number u + added u
  first : (u : ℕ) → times u s.first ≡ rules.most_done core.replicas u + added u
  steps : core.steps ≡ length s.first

-- ---- a lease

module _ (job : Asked) (core : Run) (s : Steps) (h : AreFirst core s) (lease : Lease) (count : ℕ) (peer : Peer) (runs : rules.lease_run job core lease count ≡ Some peer) (gets : List Get) (stop : Option Stop) (parking : Option Parking) where
  abbrev t : ℕ
  t = lease.thread

  abbrev r : ℕ
  r = lease.replica

  abbrev behind : Run
  behind = rules.core_after_lease core lease peer gets stop parking

  abbrev came : Replica
  came = rules.stopped lease.thread stop peer.replica

  parts : LentParts job core lease count peer
  parts = lent-parts job core lease count peer runs

  lent-is : (u : ℕ) → done_of core.replicas r u ≡ rules.done_in parts.lent u
  lent-is u = ap (λ (o : Option Replica). option_map_or (λ (x : Replica). rules.done_in x u) o 0) parts.there

  came-is : (u : ℕ) → rules.done_in came u ≡ rules.done_in peer.replica u
  came-is u = done-changed (with_stop stop) (λ x. refl) peer.replica.threads lease.thread u

  retires : Retires t count parts.lent peer.replica
  retires = run-retires _ (asker lease.thread) job.settings.watchdog t count _ peer parts.runs

  -- in the replica, and in any at the most
  own-came : rules.done_in came t ≡ done_of core.replicas r t + count
  own-came = came-is t ∙ (retires.own ∙ ap (λ (n : ℕ). n + count) (sym (lent-is t)))

  other-came : (u : ℕ) → u ≢ t → rules.done_in came u ≡ done_of core.replicas r u
  other-came u d = came-is u ∙ (retires.others u d ∙ sym (lent-is u))

  most-own : rules.most_done behind.replicas t ≡ max (rules.most_done core.replicas t) (done_of core.replicas r t + count)
  most-own =
      let own = own-came in
      let lent = lent-is t in
      most-set core.replicas r parts.lent came t parts.there (omega arith) ∙ ap (λ (n : ℕ). max (rules.most_done core.replicas t) n) own-came

  most-other : (u : ℕ) → u ≢ t → rules.most_done behind.replicas u ≡ rules.most_done core.replicas u
  most-other u d =
      let other = other-came u d in
      let lent = lent-is u in
      let set = most-set core.replicas r parts.lent came u parts.there (omega arith) in
      let has = most-has core.replicas r u in
      omega arith

  first-run : FirstRun t (times t (s.taken r) + count) s.first (first_run t count s.first (s.taken r))
  first-run = first-runs t count s.first (s.taken r) (let a = h.taken r t in let b = h.first t in let c = most-has core.replicas r t in omega arith)

  -- what was taken in the replica
  taken-here : (u : ℕ) → times u (s.taken r ++ replicate count t) ≡ rules.done_in came u + h.added u
  taken-here u = times-append u (s.taken r) (replicate count t) ∙ by (cases_eq u t)
    where
      by : (u ≡ t) ⊎ (u ≢ t) → times u (s.taken r) + times u (replicate count t) ≡ rules.done_in came u + h.added u
      by (inl e) = subst (λ (v : ℕ). times v (s.taken r) + times v (replicate count t) ≡ rules.done_in came v + h.added v) (sym e)
          (let a = h.taken r t in let b = own-came in let c = own-replicated t count in omega arith)
      by (inr d) = let a = h.taken r u in let b = other-came u d in let c = none-replicated t u count d in omega arith

  taken-lease : (number u : ℕ) → times u ((lease_steps lease count s).taken number) ≡ done_of behind.replicas number u + h.added u
  taken-lease number u = by (cases_eq number r)
    where
      by : (number ≡ r) ⊎ (number ≢ r) → times u (cond (number == r) (s.taken number ++ replicate count t) (s.taken number)) ≡ done_of behind.replicas number u + h.added u
      by (inl e) = subst (λ (n : ℕ). times u (cond (n == r) (s.taken n ++ replicate count t) (s.taken n)) ≡ done_of behind.replicas n u + h.added u) (sym e)
          (ap (λ (b : Bool). times u (cond b (s.taken r ++ replicate count t) (s.taken r))) (eq-eqb r r refl)
          ∙ (taken-here u ∙ ap (λ (o : Option Replica). option_map_or (λ (x : Replica). rules.done_in x u) o 0 + h.added u) (sym (get-set-same core.replicas r parts.lent came parts.there))))
      by (inr d) =
          ap (λ (b : Bool). times u (cond b (s.taken number ++ replicate count t) (s.taken number))) (differs number r d)
          ∙ (h.taken number u ∙ ap (λ (o : Option Replica). option_map_or (λ (x : Replica). rules.done_in x u) o 0 + h.added u) (sym (slice_get-set_other core.replicas r number came (λ e. d (sym e)))))

  first-lease : (u : ℕ) → times u (lease_steps lease count s).first ≡ rules.most_done behind.replicas u + h.added u
  first-lease u = by (cases_eq u t)
    where
      by : (u ≡ t) ⊎ (u ≢ t) → times u (first_run t count s.first (s.taken r)) ≡ rules.most_done behind.replicas u + h.added u
      by (inl e) = subst (λ (v : ℕ). times v (first_run t count s.first (s.taken r)) ≡ rules.most_done behind.replicas v + h.added v) (sym e)
          (let a = first-run.own in let b = h.taken r t in let c = h.first t in let d = most-own in omega arith)
      by (inr d) = first-run.others u d ∙ (h.first u ∙ ap (λ (n : ℕ). n + h.added u) (sym (most-other u d)))

  steps-lease : core.steps + (rules.done_in peer.replica t - rules.most_done core.replicas t) ≡ length (lease_steps lease count s).first
  steps-lease =
      let own = first-run.own in
      let longer = first-run.longer in
      let taken = h.taken r t in
      let first = h.first t in
      let steps = h.steps in
      let came = own-came in
      let same = came-is t in
      omega arith

  lease-first : length behind.sides ≡ length behind.replicas → AreFirst behind (lease_steps lease count s)
  lease-first many = record { as_many = many; added = h.added; taken = taken-lease; first = first-lease; steps = steps-lease }

-- ---- an event

module _ (job : Asked) (core : Run) (s : Steps) (h : AreFirst core s) (thread : ℕ) (stop : Option Stop) where
  event-first : (event : Event) → length (rules.core_after job (rules.settled core thread) thread stop event).sides ≡ length (rules.core_after job (rules.settled core thread) thread stop event).replicas
      → AreFirst (rules.core_after job (rules.settled core thread) thread stop event) (served_all thread (event_steps event.did) s)
  event-first event many = record {
    as_many = many;
    added = λ u. h.added u + times u (replicate (event_steps event.did) thread);
    taken = λ number u.
        let append = times-append u (s.taken number) (replicate (event_steps event.did) thread) in
        let old = h.taken number u in
        let same = done-after event.effect (rules.entered_by (chosen_of job.program) (rules.kernel_for core thread) event.kernel stop) core.replicas core.sides h.as_many number u in
        omega arith;
    first = λ u.
        let append = times-append u s.first (replicate (event_steps event.did) thread) in
        let old = h.first u in
        let same = most-after event.effect (rules.entered_by (chosen_of job.program) (rules.kernel_for core thread) event.kernel stop) core.replicas core.sides h.as_many u in
        omega arith;
    steps = ap (λ (n : ℕ). n + event_steps event.did) h.steps ∙ sym (length-append s.first (replicate (event_steps event.did) thread) ∙ ap (λ (n : ℕ). length s.first + n) (length-replicate (event_steps event.did) thread));
  }

-- a call that would be served now is served in the kernel that knows of the calls which replicas answered
served-is : (served : Served) → IsServed served → is_served served ≡ true
served-is (Done kernel effect) h = refl
served-is (Ends kernel how) h = refl
served-is served h = elim h [ ]

serves-released : (setup : Setup) (kernel : Kernel) (thread : ℕ) (call : Call) → serves setup kernel thread call ≡ true → serves setup (released kernel thread) thread call ≡ true
unfolding serve
serves-released setup kernel thread call e = by call.which refl e
  where
    by : (which : Which) → call.which ≡ which → is_served (serve_which setup kernel thread call which) ≡ true → is_served (serve_which setup (released kernel thread) thread call which) ≡ true
    by (System number) w f = ap (λ (k : Kernel). is_served (serve_by setup k thread call None (System number))) (released-twice kernel thread) ∙ f
    by (Function function) w f = ap (λ (k : Kernel). is_served (serve_by setup k thread call None (Function function))) (released-twice kernel thread) ∙ f
    by (Atomic word) w f = ap (λ (x : Which). is_served (serve_which setup (released kernel thread) thread call x)) (sym w) ∙ served-is _ (atomic-served setup (released kernel thread) thread call word w)

serves-there : (setup : Setup) (core : Run) (thread : ℕ) (call : Call) → serves setup core.kernel thread call ≡ true → serves setup (rules.kernel_for core thread) thread call ≡ true
serves-there setup core thread call e = by (slice_get core.sides 0)
  where
    bit : (b : Bool) → serves setup (cond b (released core.kernel thread) core.kernel) thread call ≡ true
    bit true = serves-released setup core.kernel thread call e
    bit false = e

    by : (o : Option Side) → serves setup (option_map_or (λ (side : Side). cond (side.answered thread) (released core.kernel thread) core.kernel) o core.kernel) thread call ≡ true
    by None = e
    by (Some side) = bit (side.answered thread)

-- ---- an entry

module _ (job : Asked) (core : Run) (s : Steps) (h : AreFirst core s) where
  many-after : (entry : Entry) → length (rules.after job core entry).sides ≡ length (rules.after job core entry).replicas
  many-after entry = as-many-after job core entry h.as_many

  free-first : (thread : ℕ) → rules.MayFree job core thread → length (rules.after job core (Free thread)).sides ≡ length (rules.after job core (Free thread)).replicas → AreFirst (rules.after job core (Free thread)) (served_all thread 1 s)
  unfolding rules.after
  free-first thread m many =
      let p = free-parts job core thread m.may in
      let event : Event = call_event (rules.kernel_for core thread) thread p.call [] (serve (setup_of job.program) (rules.kernel_for core thread) thread p.call) in
      let is : rules.freed_event job core thread ≡ Some event = freed-is job (rules.settled core thread) thread p.call p.blocked_on in
      let one : event_steps event.did ≡ 1 = ap event_steps (freed-steps job (rules.kernel_for core thread) thread p.call (serves-there (setup_of job.program) core thread p.call p.goes_on)) in
      subst (λ (o : Option Event). AreFirst (rules.core_after_event job core thread (option_map Calls (core.blocked thread)) o) (served_all thread 1 s)) (sym is)
      (subst (λ (n : ℕ). AreFirst (rules.core_after job (rules.settled core thread) thread (option_map Calls (core.blocked thread)) event) (served_all thread n s)) one
      (event-first job core s h thread (option_map Calls (core.blocked thread)) event
      (subst (λ (o : Option Event). length (rules.core_after_event job core thread (option_map Calls (core.blocked thread)) o).sides ≡ length (rules.core_after_event job core thread (option_map Calls (core.blocked thread)) o).replicas) is many)))

  vote-first : (thread : ℕ) (event : Event) (did : Did) → rules.voted_event job core thread ≡ Some event → event.did ≡ did → length (rules.core_after_event job core thread (rules.voted_stop core thread) (rules.voted_event job core thread)).sides ≡ length (rules.core_after_event job core thread (rules.voted_stop core thread) (rules.voted_event job core thread)).replicas
      → AreFirst (rules.core_after_event job core thread (rules.voted_stop core thread) (rules.voted_event job core thread)) (served_all thread (event_steps did) s)
  vote-first thread event did comes same many =
      subst (λ (o : Option Event). AreFirst (rules.core_after_event job core thread (rules.voted_stop core thread) o) (served_all thread (event_steps did) s)) (sym comes)
      (subst (λ (d : Did). AreFirst (rules.core_after job (rules.settled core thread) thread (rules.voted_stop core thread) event) (served_all thread (event_steps d) s)) same
      (event-first job core s h thread (rules.voted_stop core thread) event
      (subst (λ (o : Option Event). length (rules.core_after_event job core thread (rules.voted_stop core thread) o).sides ≡ length (rules.core_after_event job core thread (rules.voted_stop core thread) o).replicas) comes many)))

  entry-first : (entry : Entry) → rules.IsAllowed job core entry → length (rules.after job core entry).sides ≡ length (rules.after job core entry).replicas → AreFirst (rules.after job core entry) (steps_after s entry)
  unfolding rules.after
  entry-first (Take lease) m many = record { as_many = many; added = h.added; taken = h.taken; first = h.first; steps = h.steps }
  entry-first (Put lease count hit) m many =
      subst (λ (o : Option Peer). length (rules.core_after_put job core lease count o).sides ≡ length (rules.core_after_put job core lease count o).replicas → AreFirst (rules.core_after_put job core lease count o) (lease_steps lease count s)) (sym m.ran.runs)
      (λ long. lease-first job core s h lease count m.ran.peer m.ran.runs (rules.lease_gets job core lease count) (rules.arrival job core.kernel lease.thread count m.ran.peer) None long) many
  entry-first (Part lease count hit) m many =
      subst (λ (o : Option Peer). length (rules.core_after_part job core lease count o).sides ≡ length (rules.core_after_part job core lease count o).replicas → AreFirst (rules.core_after_part job core lease count o) (lease_steps lease count s)) (sym m.ran.runs)
      (λ long. lease-first job core s h lease count m.ran.peer m.ran.runs (rules.lease_gets job core lease count) None (rules.parking_of job core.kernel lease.thread m.ran.peer) long) many
  entry-first (Vote thread count won lost did) m many = vote-first thread m.event did m.comes m.did_is many
  entry-first (Free thread) m many = free-first thread m many
  entry-first (Scrub won lost) m many = absurd m
  entry-first (End how) m many = record { as_many = many; added = h.added; taken = h.taken; first = h.first; steps = h.steps }

journal-first : (job : Asked) (core : Run) (s : Steps) → AreFirst core s → (journal : List Entry) → rules.LegalFrom job core journal → AreFirst (rules.replay_from job core journal) (steps_from s journal)
journal-first job core s h [] legal = h
journal-first job core s h (entry ∷ journal) legal = journal-first job (rules.after job core entry) (steps_after s entry) (entry-first job core s h entry legal.0 (many-after job core s h entry)) journal legal.1

-- ---- the opening

opening-done : (job : Asked) (n u : ℕ) → rules.done_in (opening_replica job.program.image job.faults n) u ≡ 0
unfolding opening_replica
opening-done job n zero = refl
opening-done job n (suc u) = refl

opened-done : (job : Asked) (n u : ℕ) (r : Replica) → slice_get (opening_replicas job job.settings.replicas) n ≡ Some r → rules.done_in r u ≡ 0
opened-done job n u r e = ap (λ (x : Replica). rules.done_in x u) (sym (get-opening job job.settings.replicas n r e)) ∙ opening-done job n u

opening-of : (job : Asked) (n u : ℕ) → done_of (opening_replicas job job.settings.replicas) n u ≡ 0
opening-of job n u = by (slice_get (opening_replicas job job.settings.replicas) n) refl
  where
    by : (o : Option Replica) → slice_get (opening_replicas job job.settings.replicas) n ≡ o → option_map_or (λ (r : Replica). rules.done_in r u) o 0 ≡ 0
    by None e = refl
    by (Some r) e = opened-done job n u r e

opening-first : (job : Asked) → length (rules.opening_core job).sides ≡ length (rules.opening_core job).replicas → AreFirst (rules.opening_core job) nothing
unfolding rules.opening_core opening_voted
opening-first job many = record {
  as_many = many;
  added = λ u. 0;
  taken = λ number u. let none = opening-of job number u in omega arith;
  first = λ u. let none = most-least (opening_replicas job job.settings.replicas) u 0 (λ n r e. let zero_done = opened-done job n u r e in omega arith) in omega arith;
  steps = refl;
}

-- ---- what a legal journal says

pub steps-are-first : (job : Asked) → job.faults ≡ [] → (journal : List Entry) → rules.Legal job journal → (rules.replay job journal).steps ≡ length (first_of journal)
steps-are-first job unstruck journal legal = (journal-first job (rules.opening_core job) nothing (opening-first job (opening-many job)) journal legal).steps

-- an end is no step
pub first-end : (before : List Entry) (how : How) → first_of (before ++ End how ∷ []) ≡ first_of before
first-end before how = ap (λ (s : Steps). s.first) (from nothing before)
  where
    from : (s : Steps) (journal : List Entry) → steps_from s (journal ++ End how ∷ []) ≡ steps_from s journal
    from s [] = refl
    from s (entry ∷ journal) = from (steps_after s entry) journal

-- no fault is struck
hit-none : (job : Asked) (core : Run) (entry : Entry) → rules.IsAllowed job core entry → hits_of entry ≡ 0
hit-none job core (Put lease count hit) m = m.unstruck
hit-none job core (Part lease count hit) m = m.unstruck
hit-none job core entry m = refl

none-struck-from : (job : Asked) (core : Run) (journal : List Entry) → rules.LegalFrom job core journal → struck_in journal ≡ 0
none-struck-from job core [] legal = refl
none-struck-from job core (entry ∷ journal) legal =
    let sum = sum_by-cons hits_of entry journal in
    let one = hit-none job core entry legal.0 in
    let rest = none-struck-from job (rules.after job core entry) journal legal.1 in
    omega arith

pub none-struck : (job : Asked) (journal : List Entry) → rules.Legal job journal → struck_in journal ≡ 0
none-struck job journal legal = none-struck-from job (rules.opening_core job) journal legal
