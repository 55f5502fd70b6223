-- Which faults wait in the replicas of a legal journal: those whose moments have not come.
use Rattle.std.specs.Prelude.{◌≡◌, ◌≢◌, ℕ, zero, suc, ◌+◌, ◌<◌, ◌≤◌, ◌⊎◌, Bool, true, false, not, cond, ◌&&◌, ◌||◌, ◌==◌, nat_le, List, [], ◌∷◌, ◌++◌, length, map, Option, Some, None, slice_get}
use Rattle.std.specs.List.{filter}
use Rattle.std.proofs.Common.{refl, sym, ap, ◌∙◌, subst, arith, inl, inr, append-nil, append_assoc}
use Rattle.std.proofs.lemmas.Bool.{cases_Bool, or_cases, cases_eq, and_parts, and_from, and_left, and_right, or_parts, or_left, or_right, le-leb, leb-true, leb-false, eqb-true, eqb-false, eq-eqb, ne_eqb}
use Rattle.ro_event.specs.Effects.{Effect}
use Rattle.ro_event.specs.declared.effects.Made.{Made}
use Rattle.ro_exec.specs.Threads.{made_cpu}
use Rattle.ro_exec.specs.Next.{Backed}
use Rattle.ro_journal.specs.Losers.{numbers}
use Rattle.ro_journal.specs.declared.Lease.{Lease}
use Rattle.ro_journal.specs.declared.Entry.{Entry}
use Rattle.ro_journal.specs.declared.Entry.TheVariants.{Take, Put, Part, Vote, Free, Scrub, End}
use Rattle.ro_faults.specs.declared.Fault.{Fault}
use Rattle.ro_kernel.specs.Serve.{serve}
use Rattle.ro_thread.specs.declared.Thread.{Thread}
use Rattle.ro_replica.specs.Replica.{Replica, changed_at, unstopped, creator_of, thread_after, with_made, without_cancelled, applied, cancelled, copied_threads, recovered, opening_replica}
use Rattle.ro_replica.specs.Runs.{RanTo, with_stop}
use Rattle.ro_plain.specs.Machine.{setup_of}
use Rattle.ro_plain.proofs.Calls.{some-injective}
use Rattle.ro_legal.specs.Core.{Job, Core, opening_core}
use Rattle.ro_legal.specs.Event.{Event, call_event, with_copy, with_recovered}
use Rattle.ro_event.specs.declared.stops.Stop.{Stop}
use Rattle.ro_legal.specs.Legal.{stopped, core_after_lease, core_after_event, after, IsAllowed, Returns, LegalFrom, Legal, replay_from, replay}
use Rattle.ro_legal.specs.Laws.{is_run, count_of, hit_in, has_run, retired, hits, has_come}
use Rattle.ro_legal.specs.Sound.{IsOrdered}
use Rattle.ro_legal.proofs.Lists.{ChangedFrom, unchanged, changed_here, get-changed, MappedFrom, get-map, get-append-cases, get-set-cases}
use Rattle.ro_legal.proofs.Copies.{AfterCopy, not_lost, is_copy, after-copy, still-there}
use Rattle.ro_legal.proofs.Effects.{backed_after, threads_after}
use Rattle.ro_legal.proofs.Leases.{put-by, part-by}
use Rattle.ro_legal.proofs.Ordered.{AreSound, copied-sound, get-opening, one-thread, event-parts, free-parts, scrub-winner, freed-is, ordered-after, ordered-opening}
use Rattle.ro_legal.proofs.Grants.{LentGo, GoesOn, goes-after, goes-opening, LentThread, lent-thread, lent-meets}
use Rattle.ro_legal.proofs.Retired.{RunMeets, filter-filter, filter-same, length-parts, is_passed, same-bool, not-or}

-- ---- a journal with one entry more

has_run-more : (journal : List Entry) (entry : Entry) (replica thread : ℕ) → has_run (journal ++ entry ∷ []) replica thread ≡ (is_run replica thread entry || has_run journal replica thread)
has_run-more [] entry replica thread = refl
has_run-more (first ∷ journal) entry replica thread = ap (λ (b : Bool). is_run replica thread first || b) (has_run-more journal entry replica thread) ∙ swap (is_run replica thread first) (is_run replica thread entry) (has_run journal replica thread)
  where
    swap : (a b c : Bool) → (a || (b || c)) ≡ (b || (a || c))
    swap true true c = refl
    swap true false c = refl
    swap false b c = refl

retired-more : (journal : List Entry) (entry : Entry) (replica thread : ℕ) → retired (journal ++ entry ∷ []) replica thread ≡ retired journal replica thread + cond (is_run replica thread entry) (count_of entry) 0
retired-more [] entry replica thread = omega arith
retired-more (first ∷ journal) entry replica thread = omega (arith, retired-more journal entry replica thread)

hits-more : (journal : List Entry) (entry : Entry) (replica : ℕ) → hits (journal ++ entry ∷ []) replica ≡ hits journal replica + hit_in replica entry
hits-more [] entry replica = omega arith
hits-more (first ∷ journal) entry replica = omega (arith, hits-more journal entry replica)

-- a thread that did not run has retired nothing
retired-none : (journal : List Entry) (replica thread : ℕ) → has_run journal replica thread ≡ false → retired journal replica thread ≡ 0
retired-none [] replica thread e = refl
retired-none (entry ∷ journal) replica thread e =
    let p = or_parts (is_run replica thread entry) (has_run journal replica thread) e in
    let first : cond (is_run replica thread entry) (count_of entry) 0 ≡ 0 = ap (λ (b : Bool). cond b (count_of entry) 0) p.0 in
    omega (arith, first, retired-none journal replica thread p.1)

-- an entry that gives back no run of the replica's threads changes nothing of its faults
come-same : (journal : List Entry) (entry : Entry) (fault : Fault) → is_run fault.replica fault.thread entry ≡ false → has_come (journal ++ entry ∷ []) fault ≡ has_come journal fault
come-same journal entry fault e =
    let runs : has_run (journal ++ entry ∷ []) fault.replica fault.thread ≡ has_run journal fault.replica fault.thread =
    has_run-more journal entry fault.replica fault.thread ∙ ap (λ (b : Bool). b || has_run journal fault.replica fault.thread) e
    in
    let done : retired (journal ++ entry ∷ []) fault.replica fault.thread ≡ retired journal fault.replica fault.thread =
    retired-more journal entry fault.replica fault.thread ∙ ap (λ (b : Bool). retired journal fault.replica fault.thread + cond b (count_of entry) 0) e ∙ (let g : retired journal fault.replica fault.thread + 0 ≡ retired journal fault.replica fault.thread = omega arith in g)
    in
    (λ t. runs t && nat_le fault.at (done t))

-- ---- what the journal says of a replica

pub record Meets (job : Job) (journal : List Entry) (number : ℕ) (replica : Replica) : Type 0 where
  pub waiting : replica.waiting ≡ filter (λ fault. (fault.replica == number) && not (has_come journal fault)) job.faults
  pub struck : hits journal number ≡ length (filter (λ fault. (fault.replica == number) && has_come journal fault) job.faults)
  pub made : (place : ℕ) (x : Thread) → slice_get replica.threads place ≡ Some x → x.done ≡ retired journal number place
  pub unmade : (place : ℕ) → slice_get replica.threads place ≡ None → has_run journal number place ≡ false

abbrev AllMeet : Job → List Entry → Core → Type 0
AllMeet job journal core = (number : ℕ) (replica : Replica) → slice_get core.replicas number ≡ Some replica → Meets job journal number replica

-- an entry that gives back no run of that replica
abbrev IsQuiet : (number : ℕ) → Entry → Type 0
IsQuiet number entry = ((thread : ℕ) → is_run number thread entry ≡ false) × (hit_in number entry ≡ 0)

-- a replica with the same faults and the same counts
record SameCounts (old new : Replica) : Type 0 where
  waiting : new.waiting ≡ old.waiting
  made : (place : ℕ) (x : Thread) → slice_get new.threads place ≡ Some x → ((y : Thread) × (slice_get old.threads place ≡ Some y) × (x.done ≡ y.done)) ⊎ ((slice_get old.threads place ≡ None) × (x.done ≡ 0))
  unmade : (place : ℕ) → slice_get new.threads place ≡ None → slice_get old.threads place ≡ None

-- what is said of the faults of one replica
same-faults : (job : Job) (number : ℕ) (p q : Fault → Bool) → ((fault : Fault) → fault.replica ≡ number → p fault ≡ q fault) → filter (λ fault. (fault.replica == number) && p fault) job.faults ≡ filter (λ fault. (fault.replica == number) && q fault) job.faults
same-faults job number p q same = filter-same _ _ (λ fault. by fault (cases_Bool (fault.replica == number))) job.faults
  where
    by : (fault : Fault) → ((fault.replica == number) ≡ true) ⊎ ((fault.replica == number) ≡ false) → ((fault.replica == number) && p fault) ≡ ((fault.replica == number) && q fault)
    by fault (inl e) = ap (λ (b : Bool). (fault.replica == number) && b) (same fault (eqb-true fault.replica number e))
    by fault (inr e) = and_left _ _ e ∙ sym (and_left _ _ e)

meets-quiet : (job : Job) (journal : List Entry) (entry : Entry) (number : ℕ) (old new : Replica) → IsQuiet number entry → SameCounts old new → Meets job journal number old → Meets job (journal ++ entry ∷ []) number new
meets-quiet job journal entry number old new quiet same h = record {
  waiting = same.waiting ∙ h.waiting ∙ sym (same-faults job number _ _ (λ fault e. ap not (come fault e)));
  struck = hits-more journal entry number ∙ (let n : hit_in number entry ≡ 0 = quiet.1 in let g : hits journal number + hit_in number entry ≡ hits journal number = omega arith in g)
      ∙ h.struck ∙ sym (ap length (same-faults job number _ _ come));
  made = λ place x e. done place x (same.made place x e) ∙ sym (retired-same place);
  unmade = λ place e. runs place ∙ h.unmade place (same.unmade place e);
}
  where
    come : (fault : Fault) → fault.replica ≡ number → has_come (journal ++ entry ∷ []) fault ≡ has_come journal fault
    come fault e = come-same journal entry fault (ap (λ (n : ℕ). is_run n fault.thread entry) e ∙ quiet.0 fault.thread)

    runs : (place : ℕ) → has_run (journal ++ entry ∷ []) number place ≡ has_run journal number place
    runs place = has_run-more journal entry number place ∙ ap (λ (b : Bool). b || has_run journal number place) (quiet.0 place)

    retired-same : (place : ℕ) → retired (journal ++ entry ∷ []) number place ≡ retired journal number place
    retired-same place = retired-more journal entry number place ∙ ap (λ (b : Bool). retired journal number place + cond b (count_of entry) 0) (quiet.0 place) ∙ (let g : retired journal number place + 0 ≡ retired journal number place = omega arith in g)

    done : (place : ℕ) (x : Thread) → ((y : Thread) × (slice_get old.threads place ≡ Some y) × (x.done ≡ y.done)) ⊎ ((slice_get old.threads place ≡ None) × (x.done ≡ 0)) → x.done ≡ retired journal number place
    done place x (inl e) = e.2 ∙ h.made place e.0 e.1
    done place x (inr e) = e.1 ∙ sym (retired-none journal number place (h.unmade place e.0))

same-replica : (replica : Replica) → SameCounts replica replica
same-replica replica = record { waiting = refl; made = λ place x e. inl (x, e, refl); unmade = λ place e. e }

-- ---- effects and copies

-- where no thread is after a change of the list, none was before
changed-none : {X : Type 0} (f : X → X) (xs : List X) (t i : ℕ) → slice_get (changed_at f xs t) i ≡ None → slice_get xs i ≡ None
changed-none f [] t i e = e
changed-none f (x ∷ xs) zero zero e = absurd (let g : Some (f x) ≡ None = e in cc)
changed-none f (x ∷ xs) zero (suc i) e = e
changed-none f (x ∷ xs) (suc t) zero e = e
changed-none f (x ∷ xs) (suc t) (suc i) e = changed-none f xs t i e

append-none : {X : Type 0} (xs ys : List X) (i : ℕ) → slice_get (xs ++ ys) i ≡ None → slice_get xs i ≡ None
append-none [] ys i e = refl
append-none (x ∷ xs) ys zero e = e
append-none (x ∷ xs) ys (suc i) e = append-none xs ys i e

made-none : (made : Option Made) (threads : List Thread) (i : ℕ) → slice_get (with_made made threads) i ≡ None → slice_get threads i ≡ None
made-none None threads i e = e
made-none (Some made) [] i e = e
made-none (Some made) (y ∷ threads) i e = append-none (y ∷ threads) _ i e

map-none : {X Y : Type 0} (f : X → Y) (xs : List X) (i : ℕ) → slice_get (map f xs) i ≡ None → slice_get xs i ≡ None
map-none f [] i e = refl
map-none f (x ∷ xs) zero e = absurd (let g : Some (f x) ≡ None = e in cc)
map-none f (x ∷ xs) (suc i) e = map-none f xs i e

-- no element stands behind the last
get-past : {X : Type 0} (xs : List X) → slice_get xs (length xs) ≡ None
get-past [] = refl
get-past (x ∷ xs) = get-past xs

abbrev Comes : List Thread → (place : ℕ) → Thread → Type 0
Comes threads place x = ((y : Thread) × (slice_get threads place ≡ Some y) × (x.done ≡ y.done)) ⊎ ((slice_get threads place ≡ None) × (x.done ≡ 0))

comes-changed : (f : Thread → Thread) → ((x : Thread) → (f x).done ≡ x.done) → (threads : List Thread) (t place : ℕ) (x : Thread) → slice_get (changed_at f threads t) place ≡ Some x → Comes threads place x
comes-changed f same threads t place x e = by (get-changed f threads t place x e)
  where
    by : ChangedFrom f threads t place x → Comes threads place x
    by (unchanged d g) = inl (x, g, refl)
    by (changed_here y d g k) = inl (y, g, ap (λ (z : Thread). z.done) (sym k) ∙ same y)

-- of a thread that comes from one of a list that comes from another
comes-on : (threads before : List Thread) (place : ℕ) (x : Thread) → ((y : Thread) → slice_get threads place ≡ Some y → Comes before place y) → (slice_get threads place ≡ None → slice_get before place ≡ None) → Comes threads place x → Comes before place x
comes-on threads before place x from none (inl e) = by (from e.0 e.1)
  where
    by : Comes before place e.0 → Comes before place x
    by (inl f) = inl (f.0, f.1, e.2 ∙ f.2)
    by (inr f) = inr (f.0, e.2 ∙ f.1)
comes-on threads before place x from none (inr e) = inr (none e.0, e.1)

comes-made : (made : Option Made) (threads : List Thread) (place : ℕ) (x : Thread) → slice_get (with_made made threads) place ≡ Some x → Comes threads place x
comes-made None threads place x e = inl (x, e, refl)
comes-made (Some made) [] place x e = absurd (let f : None ≡ Some x = e in cc)
comes-made (Some made) (y ∷ threads) place x e = by (get-append-cases (y ∷ threads) (unstopped (made_cpu made (creator_of made (y ∷ threads) y) (length (y ∷ threads)))) place x e)
  where
    by : (slice_get (y ∷ threads) place ≡ Some x) ⊎ ((place ≡ length (y ∷ threads)) × (unstopped (made_cpu made (creator_of made (y ∷ threads) y) (length (y ∷ threads))) ≡ x)) → Comes (y ∷ threads) place x
    by (inl f) = inl (x, f, refl)
    by (inr f) = inr (ap (slice_get (y ∷ threads)) f.0 ∙ get-past (y ∷ threads), ap (λ (z : Thread). z.done) (sym f.1))

same-applied : (effect : Effect) (replica : Replica) → SameCounts replica (cancelled (applied effect replica))
unfolding applied cancelled
same-applied effect replica = record {
  waiting = refl;
  made = λ place x e. mapped place x (get-map (without_cancelled (backed_after effect replica.backed)) (threads_after effect replica.threads) place x e);
  unmade = λ place e. changed-none (thread_after effect) replica.threads effect.thread place (made-none effect.made changed place (map-none _ (threads_after effect replica.threads) place e));
}
  where
    changed : List Thread
    changed = changed_at (thread_after effect) replica.threads effect.thread

    mapped : (place : ℕ) (x : Thread) → MappedFrom (without_cancelled (backed_after effect replica.backed)) (threads_after effect replica.threads) place x → Comes replica.threads place x
    mapped place x m =
        comes-on changed replica.threads place x (λ y e. comes-changed (thread_after effect) (λ z. refl) replica.threads effect.thread place y e) (changed-none (thread_after effect) replica.threads effect.thread place)
        (comes-on (threads_after effect replica.threads) changed place x (λ y e. comes-made effect.made changed place y e) (made-none effect.made changed place) (inl (m.from, m.there, ap (λ (z : Thread). z.done) (sym m.gives))))

-- a copy keeps the loser's counts
comes-copied : (winners losers : List Thread) (place : ℕ) (x : Thread) → slice_get (copied_threads winners losers) place ≡ Some x → Comes losers place x
comes-copied [] losers place x e = absurd (let f : None ≡ Some x = e in cc)
comes-copied (w ∷ winners) [] place x e = absurd (let f : None ≡ Some x = e in cc)
comes-copied (w ∷ winners) (l ∷ losers) zero x e = inl (l, refl, ap (λ (z : Thread). z.done) (sym (some-injective e)))
comes-copied (w ∷ winners) (l ∷ losers) (suc place) x e = comes-copied winners losers place x e

copied-none : (winners losers : List Thread) (place : ℕ) → length winners ≡ length losers → slice_get (copied_threads winners losers) place ≡ None → slice_get losers place ≡ None
copied-none [] [] place n e = refl
copied-none [] (l ∷ losers) place n e = absurd (omega arith)
copied-none (w ∷ winners) [] place n e = refl
copied-none (w ∷ winners) (l ∷ losers) zero n e = absurd (let f : Some (record w { done = l.done }) ≡ None = e in cc)
copied-none (w ∷ winners) (l ∷ losers) (suc place) n e = copied-none winners losers place (omega arith) e

same-recovered : (winner loser : Replica) → length winner.threads ≡ length loser.threads → SameCounts loser (recovered winner loser)
unfolding recovered
same-recovered winner loser n = record {
  waiting = refl;
  made = λ place x e. comes-copied winner.threads loser.threads place x e;
  unmade = λ place e. copied-none winner.threads loser.threads place n e;
}

same-on : (a b c : Replica) → SameCounts a b → SameCounts b c → SameCounts a c
same-on a b c h k = record {
  waiting = k.waiting ∙ h.waiting;
  made = λ place x e. comes-on b.threads a.threads place x (λ y f. h.made place y f) (h.unmade place) (k.made place x e);
  unmade = λ place e. h.unmade place (k.unmade place e);
}

-- after a copy each replica has its faults and counts
copied-same : (job : Job) (core : Core) (backed : Backed) (replicas : List Replica) (won : ℕ) (winner : Replica) (lost : List ℕ) → AreSound job core backed replicas → slice_get replicas won ≡ Some winner
    → (number : ℕ) (r : Replica) → slice_get (with_recovered won lost replicas) number ≡ Some r → (old : Replica) × (slice_get replicas number ≡ Some old) × SameCounts old r
copied-same job core backed replicas won winner [] sound there number r e = (r, e, same-replica r)
copied-same job core backed replicas won winner (lost ∷ losers) sound there number r e =
    let w = still-there won lost replicas winner there in
    behind (copied-same job core backed (with_copy won lost replicas) won w.0 losers (copied-sound job core backed replicas won winner (lost ∷ []) there sound) w.1 number r e)
  where
    by : (amid : Replica) → AfterCopy won lost replicas number amid → (old : Replica) × (slice_get replicas number ≡ Some old) × SameCounts old amid
    by amid (not_lost d f) = (amid, f, same-replica amid)
    by amid (is_copy w l same a b f) =
        (l, ap (slice_get replicas) same ∙ b, subst (SameCounts l) f (same-recovered w l ((sound won w a).all_made ∙ sym (sound lost l b).all_made)))

    behind : (amid : Replica) × (slice_get (with_copy won lost replicas) number ≡ Some amid) × SameCounts amid r → (old : Replica) × (slice_get replicas number ≡ Some old) × SameCounts old r
    behind (amid, f, same) = let o = by amid (after-copy won lost replicas winner number amid there f) in (o.0, o.1, same-on o.0 amid r o.2 same)

-- ---- runs

-- whether the moment of a fault has come, where its thread has retired `done` and retires so many more
moment-or : (ran : Bool) (at done count : ℕ) → (ran ≡ false → done ≡ 0) → ((ran && nat_le at done) || (nat_le done at && nat_le at (done + count))) ≡ nat_le at (done + count)
moment-or ran at done count none = same-bool _ _ (λ e. there (or_cases _ _ e)) (λ e. back (cases_Bool ran) (cases_Bool (nat_le at done)) (leb-true at (done + count) e))
  where
    there : ((ran && nat_le at done) ≡ true) ⊎ ((nat_le done at && nat_le at (done + count)) ≡ true) → nat_le at (done + count) ≡ true
    there (inl e) = let l : at ≤ done = leb-true at done (and_parts ran (nat_le at done) e).1 in le-leb at (done + count) (omega arith)
    there (inr e) = (and_parts _ _ e).1

    back : (ran ≡ true) ⊎ (ran ≡ false) → (nat_le at done ≡ true) ⊎ (nat_le at done ≡ false) → at ≤ done + count → ((ran && nat_le at done) || (nat_le done at && nat_le at (done + count))) ≡ true
    back (inl r) (inl l) le = or_left _ _ (and_from _ _ r l)
    back (inl r) (inr g) le = let more : done < at = leb-false at done g in or_right _ _ (and_from _ _ (le-leb done at (omega arith)) (le-leb at (done + count) le))
    back (inr r) l le = let zero_done : done ≡ 0 = none r in or_right _ _ (and_from _ _ (le-leb done at (omega arith)) (le-leb at (done + count) le))

module _ (job : Job) (journal : List Entry) (lease : Lease) (count hit : ℕ) where
  put : Entry
  put = Put lease count hit

  -- of a fault of this replica, its moment has come by now where it had come or was passed in the run
  come-more : (done : ℕ) → done ≡ retired journal lease.replica lease.thread → (fault : Fault) → fault.replica ≡ lease.replica → (has_come journal fault || is_passed lease.thread done (done + count) fault) ≡ has_come (journal ++ Put lease count hit ∷ []) fault
  come-more done is fault own = by (cases_Bool (fault.thread == lease.thread))
    where
      by : ((fault.thread == lease.thread) ≡ true) ⊎ ((fault.thread == lease.thread) ≡ false) → (has_come journal fault || is_passed lease.thread done (done + count) fault) ≡ has_come (journal ++ Put lease count hit ∷ []) fault
      by (inr other) =
          let quiet : is_run fault.replica fault.thread (Put lease count hit) ≡ false = and_right (lease.replica == fault.replica) (lease.thread == fault.thread) (ne_eqb lease.thread fault.thread (λ (e : lease.thread ≡ fault.thread). eqb-false fault.thread lease.thread other (sym e))) in
          ap (λ (b : Bool). has_come journal fault || b) (and_left _ _ other) ∙ or-false (has_come journal fault) ∙ sym (come-same journal (Put lease count hit) fault quiet)
        where
          or-false : (b : Bool) → (b || false) ≡ b
          or-false true = refl
          or-false false = refl
      by (inl same) =
          let at_thread : fault.thread ≡ lease.thread = eqb-true fault.thread lease.thread same in
          let runs : is_run fault.replica fault.thread (Put lease count hit) ≡ true = and_from (lease.replica == fault.replica) (lease.thread == fault.thread) (eq-eqb lease.replica fault.replica (sym own)) (eq-eqb lease.thread fault.thread (sym at_thread)) in
          let before : retired journal fault.replica fault.thread ≡ done = (λ t. retired journal (own t) (at_thread t)) ∙ sym is in
          let none : has_run journal fault.replica fault.thread ≡ false → done ≡ 0 = λ e. sym before ∙ retired-none journal fault.replica fault.thread e in
          let has : has_run (journal ++ Put lease count hit ∷ []) fault.replica fault.thread ≡ true =
          has_run-more journal (Put lease count hit) fault.replica fault.thread ∙ ap (λ (b : Bool). b || has_run journal fault.replica fault.thread) runs
          in
          let now : retired (journal ++ Put lease count hit ∷ []) fault.replica fault.thread ≡ done + count =
          retired-more journal (Put lease count hit) fault.replica fault.thread ∙ (λ t. before t + cond (runs t) count 0)
          in
          (λ t. (has_run journal fault.replica fault.thread && nat_le fault.at (before t)) || (same t && (nat_le done fault.at && nat_le fault.at (done + count))))
          ∙ moment-or (has_run journal fault.replica fault.thread) fault.at done count none ∙ sym (λ t. has t && nat_le fault.at (now t))

  -- a put of a run that was made of what met the journal
  meets-put : (lent new : Replica) (ran : RanTo) (went : Thread) (stop : Thread → Thread) → ((x : Thread) → (stop x).done ≡ x.done) → slice_get lent.threads lease.thread ≡ Some went → RunMeets lease.thread count went lent ran → ran.hit ≡ hit
      → new.waiting ≡ ran.replica.waiting → new.threads ≡ changed_at stop ran.replica.threads lease.thread → Meets job journal lease.replica lent → Meets job (journal ++ Put lease count hit ∷ []) lease.replica new
  meets-put lent new ran went stop same there run hit_is waits threads h = record {
    waiting = waits ∙ run.waiting ∙ ap (filter (λ fault. not (is_passed lease.thread went.done (went.done + count) fault))) h.waiting
        ∙ filter-filter _ _ _ left job.faults;
    struck = hits-more journal (Put lease count hit) lease.replica
        ∙ (λ t. h.struck t + cond (eq-eqb lease.replica lease.replica refl t) (sym hit_is t) 0)
        ∙ ap (λ (n : ℕ). length (filter (λ fault. (fault.replica == lease.replica) && has_come journal fault) job.faults) + n) passed
        ∙ length-parts _ _ _ either job.faults;
    made = λ place x e. made place x (comes-changed stop same ran.replica.threads lease.thread place x (ap (λ (xs : List Thread). slice_get xs place) (sym threads) ∙ e)) (cases_eq place lease.thread);
    unmade = λ place e. unmade place (changed-none stop ran.replica.threads lease.thread place (ap (λ (xs : List Thread). slice_get xs place) (sym threads) ∙ e)) (cases_eq place lease.thread);
  }
    where
      done : went.done ≡ retired journal lease.replica lease.thread
      done = h.made lease.thread went there

      either : (fault : Fault) → (((fault.replica == lease.replica) && has_come journal fault) || ((fault.replica == lease.replica) && is_passed lease.thread went.done (went.done + count) fault)) ≡ ((fault.replica == lease.replica) && has_come (journal ++ Put lease count hit ∷ []) fault)
      either fault = by (cases_Bool (fault.replica == lease.replica))
        where
          by : ((fault.replica == lease.replica) ≡ true) ⊎ ((fault.replica == lease.replica) ≡ false) → (((fault.replica == lease.replica) && has_come journal fault) || ((fault.replica == lease.replica) && is_passed lease.thread went.done (went.done + count) fault)) ≡ ((fault.replica == lease.replica) && has_come (journal ++ Put lease count hit ∷ []) fault)
          by (inl e) = (λ t. (e t && has_come journal fault) || (e t && is_passed lease.thread went.done (went.done + count) fault)) ∙ come-more went.done done fault (eqb-true fault.replica lease.replica e)
              ∙ sym (ap (λ (b : Bool). b && has_come (journal ++ Put lease count hit ∷ []) fault) e)
          by (inr e) = (λ t. (e t && has_come journal fault) || (e t && is_passed lease.thread went.done (went.done + count) fault)) ∙ sym (and_left _ _ e)

      left : (fault : Fault) → (((fault.replica == lease.replica) && not (has_come journal fault)) && not (is_passed lease.thread went.done (went.done + count) fault)) ≡ ((fault.replica == lease.replica) && not (has_come (journal ++ Put lease count hit ∷ []) fault))
      left fault = by (cases_Bool (fault.replica == lease.replica))
        where
          by : ((fault.replica == lease.replica) ≡ true) ⊎ ((fault.replica == lease.replica) ≡ false) → (((fault.replica == lease.replica) && not (has_come journal fault)) && not (is_passed lease.thread went.done (went.done + count) fault)) ≡ ((fault.replica == lease.replica) && not (has_come (journal ++ Put lease count hit ∷ []) fault))
          by (inl e) = (λ t. (e t && not (has_come journal fault)) && not (is_passed lease.thread went.done (went.done + count) fault))
              ∙ not-or _ _ _ (come-more went.done done fault (eqb-true fault.replica lease.replica e)) ∙ sym (ap (λ (b : Bool). b && not (has_come (journal ++ Put lease count hit ∷ []) fault)) e)
          by (inr e) = (λ t. (e t && not (has_come journal fault)) && not (is_passed lease.thread went.done (went.done + count) fault)) ∙ sym (and_left _ _ e)

      -- those that were struck: of the faults that had not come, those that were passed
      passed : ran.hit ≡ length (filter (λ fault. (fault.replica == lease.replica) && is_passed lease.thread went.done (went.done + count) fault) (filter (λ fault. not ((fault.replica == lease.replica) && has_come journal fault)) job.faults))
      passed = run.hit ∙ ap (λ (xs : List Fault). length (filter (is_passed lease.thread went.done (went.done + count)) xs)) h.waiting
          ∙ ap length (filter-filter _ _ _ (λ fault. refl) job.faults ∙ sym (filter-filter _ _ _ (λ fault. again (fault.replica == lease.replica) (has_come journal fault) (is_passed lease.thread went.done (went.done + count) fault)) job.faults))
        where
          again : (own come pass : Bool) → (not (own && come) && (own && pass)) ≡ ((own && not come) && pass)
          again true come pass = refl
          again false come pass = refl

      runs : has_run (journal ++ Put lease count hit ∷ []) lease.replica lease.thread ≡ true
      runs = has_run-more journal (Put lease count hit) lease.replica lease.thread ∙ or_left _ _ (and_from _ _ (eq-eqb lease.replica lease.replica refl) (eq-eqb lease.thread lease.thread refl))

      own-retired : retired (journal ++ Put lease count hit ∷ []) lease.replica lease.thread ≡ went.done + count
      own-retired = retired-more journal (Put lease count hit) lease.replica lease.thread
          ∙ (λ t. sym done t + cond (eq-eqb lease.replica lease.replica refl t && eq-eqb lease.thread lease.thread refl t) count 0)

      other-run : (place : ℕ) → place ≢ lease.thread → is_run lease.replica place (Put lease count hit) ≡ false
      other-run place d = and_right (lease.replica == lease.replica) (lease.thread == place) (ne_eqb lease.thread place (λ (e : lease.thread ≡ place). d (sym e)))

      made : (place : ℕ) (x : Thread) → Comes ran.replica.threads place x → (place ≡ lease.thread) ⊎ (place ≢ lease.thread) → x.done ≡ retired (journal ++ Put lease count hit ∷ []) lease.replica place
      made place x (inl c) (inl e) =
          let is : c.0 ≡ run.only.self = some-injective (sym c.1 ∙ ap (slice_get ran.replica.threads) e ∙ run.only.there) in
          c.2 ∙ ap (λ (y : Thread). y.done) is ∙ run.only.has_done ∙ sym own-retired ∙ ap (retired (journal ++ Put lease count hit ∷ []) lease.replica) (sym e)
      made place x (inl c) (inr d) =
          c.2 ∙ h.made place c.0 (sym (run.only.others place d) ∙ c.1)
          ∙ sym (retired-more journal (Put lease count hit) lease.replica place ∙ ap (λ (b : Bool). retired journal lease.replica place + cond b count 0) (other-run place d) ∙ (let g : retired journal lease.replica place + 0 ≡ retired journal lease.replica place = omega arith in g))
      made place x (inr c) (inl e) = absurd (let f : None ≡ Some run.only.self = sym c.0 ∙ ap (slice_get ran.replica.threads) e ∙ run.only.there in cc)
      made place x (inr c) (inr d) =
          c.1 ∙ sym (retired-none journal lease.replica place (h.unmade place (sym (run.only.others place d) ∙ c.0)))
          ∙ sym (retired-more journal (Put lease count hit) lease.replica place ∙ ap (λ (b : Bool). retired journal lease.replica place + cond b count 0) (other-run place d) ∙ (let g : retired journal lease.replica place + 0 ≡ retired journal lease.replica place = omega arith in g))

      unmade : (place : ℕ) → slice_get ran.replica.threads place ≡ None → (place ≡ lease.thread) ⊎ (place ≢ lease.thread) → has_run (journal ++ Put lease count hit ∷ []) lease.replica place ≡ false
      unmade place none (inl e) = absurd (let f : None ≡ Some run.only.self = sym none ∙ ap (slice_get ran.replica.threads) e ∙ run.only.there in cc)
      unmade place none (inr d) =
          has_run-more journal (Put lease count hit) lease.replica place ∙ ap (λ (b : Bool). b || has_run journal lease.replica place) (other-run place d) ∙ h.unmade place (sym (run.only.others place d) ∙ none)

-- ---- entries

meets-event : (job : Job) (journal : List Entry) (entry : Entry) (core : Core) (thread count : ℕ) (replicas : List Replica) (event : Event) → ((number : ℕ) → IsQuiet number entry)
    → ((number : ℕ) (r : Replica) → slice_get replicas number ≡ Some r → (old : Replica) × (slice_get core.replicas number ≡ Some old) × SameCounts old r)
    → AllMeet job journal core → AllMeet job (journal ++ entry ∷ []) (core_after_event core thread count replicas (Some event))
meets-event job journal entry core thread count replicas event quiet same h number r e = by (get-map (λ x. cancelled (applied event.effect x)) replicas number r e)
  where
    by : MappedFrom (λ x. cancelled (applied event.effect x)) replicas number r → Meets job (journal ++ entry ∷ []) number r
    by m = let s = same number m.from m.there in
        subst (Meets job (journal ++ entry ∷ []) number) m.gives
        (meets-quiet job journal entry number s.0 (cancelled (applied event.effect m.from)) (quiet number) (same-on s.0 m.from _ s.2 (same-applied event.effect m.from)) (h number s.0 s.1))

meets-same : (job : Job) (journal : List Entry) (entry : Entry) (core : Core) → ((number : ℕ) → IsQuiet number entry) → AllMeet job journal core → AllMeet job (journal ++ entry ∷ []) core
meets-same job journal entry core quiet h number r e = meets-quiet job journal entry number r r (quiet number) (same-replica r) (h number r e)

meets-back : (job : Job) (journal : List Entry) (core : Core) (lease : Lease) (count hit : ℕ) (back : Returns job core lease count hit) → LentGo core → AllMeet job journal core → (stop : Option Stop) (wishes : (replica thread : ℕ) → List ℕ) (misses : (replica thread : ℕ) → ℕ)
    → AllMeet job (journal ++ Put lease count hit ∷ []) (core_after_lease core lease stop wishes misses back.ran.replica)
meets-back job journal core lease count hit back go h stop wishes misses number r e = by (get-set-cases core.replicas lease.replica number (stopped lease.thread stop back.ran.replica) r e)
  where
    lent : LentThread core lease.replica lease.thread
    lent = lent-thread core lease.replica lease.thread (go lease back.out)

    came : Meets job (journal ++ Put lease count hit ∷ []) lease.replica (stopped lease.thread stop back.ran.replica)
    came = meets-put job journal lease count hit lent.lent (stopped lease.thread stop back.ran.replica) back.ran lent.went (with_stop stop) (λ x. refl)
        lent.in_lent (lent-meets job core lease count back.ran lent back.runs) back.struck refl refl (h lease.replica lent.lent lent.in_core)

    quiet : number ≢ lease.replica → IsQuiet number (Put lease count hit)
    quiet d = ((λ t. and_left (lease.replica == number) (lease.thread == t) (ne_eqb lease.replica number (λ (k : lease.replica ≡ number). d (sym k)))), ap (λ (b : Bool). cond b hit 0) (ne_eqb lease.replica number (λ (k : lease.replica ≡ number). d (sym k))))

    by : ((number ≢ lease.replica) × (slice_get core.replicas number ≡ Some r)) ⊎ ((number ≡ lease.replica) × (stopped lease.thread stop back.ran.replica ≡ r)) → Meets job (journal ++ Put lease count hit ∷ []) number r
    by (inl f) = meets-quiet job journal (Put lease count hit) number r r (quiet f.0) (same-replica r) (h number r f.1)
    by (inr f) = subst (λ (n : ℕ). Meets job (journal ++ Put lease count hit ∷ []) n r) (sym f.0) (subst (Meets job (journal ++ Put lease count hit ∷ []) lease.replica) f.1 came)

-- a part gives back a run as a put does
meets-part : (job : Job) (journal : List Entry) (lease : Lease) (count hit number : ℕ) (r : Replica) → Meets job (journal ++ Put lease count hit ∷ []) number r → Meets job (journal ++ Part lease count hit ∷ []) number r
meets-part job journal lease count hit number r h = record {
  waiting = h.waiting ∙ filter-same _ _ (λ fault. ap (λ (b : Bool). (fault.replica == number) && not b) (come fault)) job.faults;
  struck = hits-more journal (Part lease count hit) number ∙ sym (hits-more journal (Put lease count hit) number) ∙ h.struck ∙ ap length (filter-same _ _ (λ fault. ap (λ (b : Bool). (fault.replica == number) && b) (come fault)) job.faults);
  made = λ place x e. h.made place x e ∙ done number place;
  unmade = λ place e. sym (ran number place) ∙ h.unmade place e;
}
  where
    ran : (replica thread : ℕ) → has_run (journal ++ Put lease count hit ∷ []) replica thread ≡ has_run (journal ++ Part lease count hit ∷ []) replica thread
    ran replica thread = has_run-more journal (Put lease count hit) replica thread ∙ sym (has_run-more journal (Part lease count hit) replica thread)

    done : (replica thread : ℕ) → retired (journal ++ Put lease count hit ∷ []) replica thread ≡ retired (journal ++ Part lease count hit ∷ []) replica thread
    done replica thread = retired-more journal (Put lease count hit) replica thread ∙ sym (retired-more journal (Part lease count hit) replica thread)

    come : (fault : Fault) → has_come (journal ++ Put lease count hit ∷ []) fault ≡ has_come (journal ++ Part lease count hit ∷ []) fault
    come fault = (λ t. ran fault.replica fault.thread t && nat_le fault.at (done fault.replica fault.thread t))

meets-after : (job : Job) (journal : List Entry) (core : Core) (entry : Entry) → IsAllowed job core entry → IsOrdered job core → LentGo core → AllMeet job journal core → AllMeet job (journal ++ entry ∷ []) (after job core entry)
unfolding after
meets-after job journal core (Take lease) may ordered go h = λ number r e. meets-same job journal (Take lease) core (λ n. ((λ t. refl), refl)) h number r e
meets-after job journal core (Put lease count hit) may ordered go h =
    put-by job core lease count hit may (AllMeet job (journal ++ Put lease count hit ∷ [])) (meets-back job journal core lease count hit may.returns go h)
meets-after job journal core (Part lease count hit) may ordered go h =
    part-by job core lease count hit may (AllMeet job (journal ++ Part lease count hit ∷ []))
    (λ stop wishes misses number r e. meets-part job journal lease count hit number r (meets-back job journal core lease count hit may.returns go h stop wishes misses number r e))
meets-after job journal core (Vote thread count won lost did) may ordered go h =
    let e = event-parts job core thread won may.event may.comes in
    subst (λ (o : Option Event). AllMeet job (journal ++ Vote thread count won lost did ∷ []) (core_after_event core thread count (with_recovered won (numbers lost) core.replicas) o)) (sym may.comes)
    (meets-event job journal (Vote thread count won lost did) core thread count (with_recovered won (numbers lost) core.replicas) may.event (λ n. ((λ t. refl), refl)) (copied-same job core ordered.backed core.replicas won e.winner (numbers lost) ordered.sound e.there) h)
meets-after job journal core (Free thread) may ordered go h =
    let p = free-parts job core thread may.may in
    let event : Event = call_event core.kernel thread p.call [] (serve (setup_of job.program) core.kernel thread p.call) in
    subst (λ (o : Option Event). AllMeet job (journal ++ Free thread ∷ []) (core_after_event core thread 0 core.replicas o)) (sym (freed-is job core thread p.call p.blocked_on))
    (meets-event job journal (Free thread) core thread 0 core.replicas event (λ n. ((λ t. refl), refl)) (λ number r e. (r, e, same-replica r)) h)
meets-after job journal core (Scrub won lost) may ordered go h = λ number r e.
    let w = scrub-winner core won lost may in
    let s = copied-same job core ordered.backed core.replicas won w.0 (numbers lost) ordered.sound w.1 number r e in
    meets-quiet job journal (Scrub won lost) number s.0 r ((λ t. refl), refl) s.2 (h number s.0 s.1)
meets-after job journal core (End how) may ordered go h = λ number r e. meets-same job journal (End how) core (λ n. ((λ t. refl), refl)) h number r e

meets-from : (job : Job) (before : List Entry) (core : Core) (journal : List Entry) → LegalFrom job core journal → IsOrdered job core → GoesOn job core → AllMeet job before core → AllMeet job (before ++ journal) (replay_from job core journal)
meets-from job before core [] legal ordered go h = subst (λ (xs : List Entry). AllMeet job xs core) (sym (append-nil before)) h
meets-from job before core (entry ∷ journal) legal ordered go h =
    subst (λ (xs : List Entry). AllMeet job xs (replay_from job core (entry ∷ journal))) (append_assoc before (entry ∷ []) journal)
    (meets-from job (before ++ entry ∷ []) (after job core entry) journal legal.1 (ordered-after job core entry legal.0 ordered) (goes-after job core entry legal.0 go)
    (meets-after job before core entry legal.0 ordered go.goes h))

meets-opening : (job : Job) (number : ℕ) → Meets job [] number (opening_replica job.program.image job.faults number)
unfolding opening_replica
meets-opening job number = record {
  waiting = filter-same _ _ (λ fault. sym (and-true (fault.replica == number))) job.faults;
  struck = sym (none job.faults);
  made = λ place x e. ap (λ (y : Thread). y.done) (sym (one-thread _ place x e).1);
  unmade = λ place e. refl;
}
  where
    and-true : (b : Bool) → (b && true) ≡ b
    and-true true = refl
    and-true false = refl

    none-cons : (b : Bool) (fault : Fault) (xs : List Fault) → length xs ≡ 0 → length (cond (b && false) (fault ∷ xs) xs) ≡ 0
    none-cons true fault xs e = e
    none-cons false fault xs e = e

    none : (faults : List Fault) → length (filter (λ fault. (fault.replica == number) && has_come [] fault) faults) ≡ 0
    none [] = refl
    none (fault ∷ faults) = none-cons (fault.replica == number) fault _ (none faults)

-- what every legal journal says of its replicas
pub all-meet : (job : Job) (journal : List Entry) → Legal job journal → (number : ℕ) (replica : Replica) → slice_get (replay job journal).replicas number ≡ Some replica → Meets job journal number replica
unfolding opening_core
all-meet job journal legal = meets-from job [] (opening_core job) journal legal (ordered-opening job) (goes-opening job)
    (λ number r e. subst (Meets job [] number) (get-opening job job.settings.replicas number r e) (meets-opening job number))
