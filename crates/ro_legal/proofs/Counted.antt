-- How many instructions a thread can have retired: no more than a quantum for each entry.
use Rattle.std.specs.Prelude.{◌≡◌, ◌≢◌, ℕ, zero, suc, ◌+◌, ◌*◌, ◌≤◌, ◌<◌, ◌⊎◌, List, [], ◌∷◌, length, not, Option, Some, None, slice_get}
use Rattle.std.specs.List.{filter, fold}
use Rattle.std.proofs.Common.{refl, sym, ap, ◌∙◌, subst, arith, inl, inr}
use Rattle.ro_event.specs.declared.effects.Made.{Made}
use Rattle.ro_event.specs.Effects.{Effect}
use Rattle.ro_region.specs.declared.Range.{Range}
use Rattle.ro_journal.specs.Losers.{numbers}
use Rattle.ro_journal.specs.declared.Lease.{Lease}
use Rattle.ro_journal.specs.declared.Entry.{Entry}
use Rattle.ro_journal.specs.declared.Entry.TheVariants.{Take, Put, Part, Vote, Free, Scrub, End}
use Rattle.ro_exec.specs.Next.{Layout}
use Rattle.ro_exec.specs.Threads.{made_cpu}
use Rattle.ro_thread.specs.declared.Thread.{Thread}
use Rattle.ro_faults.specs.declared.Fault.{Fault}
use Rattle.ro_faults.specs.declared.Target.{Target}
use Rattle.ro_faults.specs.declared.Target.TheVariants.{Register, Pc, Byte}
use Rattle.ro_replica.specs.Replica.{Replica, unstopped, changed_at, thread_after, creator_of, with_made, without_cancelled, applied, cancelled, copied_threads, recovered, opening_replica}
use Rattle.ro_replica.specs.Runs.{is_due, struck_by, RanTo, strike_in, struck, run_of, with_stop}
use Rattle.ro_plain.specs.Machine.{layout_in}
use Rattle.ro_plain.proofs.Calls.{some-injective}
use Rattle.ro_legal.specs.Core.{Job, Core, opening_core}
use Rattle.ro_legal.specs.Event.{Event, with_copy, with_recovered}
use Rattle.ro_event.specs.declared.stops.Stop.{Stop}
use Rattle.ro_legal.specs.Legal.{HasArrived, Returns, stopped, core_after_lease, core_after_event, event_in, freed_event, after, IsAllowed, LegalFrom, Legal, replay_from, replay}
use Rattle.ro_legal.specs.Sound.{Counts, AreCounted}
use Rattle.ro_legal.proofs.Lists.{ChangedFrom, unchanged, changed_here, get-changed, get-set-cases, MappedFrom, get-map, get-append-cases}
use Rattle.ro_legal.proofs.Sound.{Instructs, instructs, instructed, RunParts, run-parts}
use Rattle.ro_legal.proofs.Copies.{AfterCopy, not_lost, is_copy, after-copy, still-there}
use Rattle.ro_legal.proofs.Effects.{backed_after, threads_after}
use Rattle.ro_legal.proofs.Leases.{put-by, part-by}
use Rattle.ro_legal.proofs.Ordered.{put-parts, get-opening, one-thread, event-parts, scrub-winner}

-- more are counted too
counts-more : (less more : ℕ) (replica : Replica) → less ≤ more → Counts less replica → Counts more replica
counts-more less more replica h counts place thread e = let c = counts place thread e in omega arith

-- a change that retires nothing
counts-changed : (most : ℕ) (f : Thread → Thread) → ((x : Thread) → (f x).done ≡ x.done) → (threads : List Thread) (t : ℕ) → ((place : ℕ) (x : Thread) → slice_get threads place ≡ Some x → x.done ≤ most) → (place : ℕ) (x : Thread) → slice_get (changed_at f threads t) place ≡ Some x → x.done ≤ most
counts-changed most f same threads t counts place x e = by (get-changed f threads t place x e)
  where
    by : ChangedFrom f threads t place x → x.done ≤ most
    by (unchanged d g) = counts place x g
    by (changed_here y d g k) = subst (λ (n : ℕ). n ≤ most) (sym (same y) ∙ ap (λ (z : Thread). z.done) k) (counts place y g)

-- ---- strikes

counts-struck-by : (most : ℕ) (ranges : List Range) (t : ℕ) (replica : Replica) (target : Target) → Counts most replica → Counts most (struck_by ranges t replica target)
counts-struck-by most ranges t replica (Register r bit) h = counts-changed most _ (λ x. refl) replica.threads t h
counts-struck-by most ranges t replica (Pc bit) h = counts-changed most _ (λ x. refl) replica.threads t h
counts-struck-by most ranges t replica (Byte address bit) h = h

counts-fold : (most : ℕ) (ranges : List Range) (t : ℕ) (due : List Fault) (replica : Replica) → Counts most replica → Counts most (fold (λ r fault. struck_by ranges t r fault.target) replica due)
counts-fold most ranges t [] replica h = h
counts-fold most ranges t (fault ∷ due) replica h = counts-fold most ranges t due _ (counts-struck-by most ranges t replica fault.target h)

counts-strike : (most : ℕ) (ranges : List Range) (t : ℕ) (replica : Replica) (o : Option Thread) → Counts most replica → Counts most (strike_in ranges t replica o).replica
counts-strike most ranges t replica None h = h
counts-strike most ranges t replica (Some thread) h = counts-fold most ranges t (filter (is_due t thread.done) replica.waiting) (record replica { waiting = filter (λ fault. not (is_due t thread.done fault)) replica.waiting }) h

counts-struck : (most : ℕ) (ranges : List Range) (t : ℕ) (replica : Replica) → Counts most replica → Counts most (struck ranges replica t).replica
unfolding struck
counts-struck most ranges t replica h = counts-strike most ranges t replica (slice_get replica.threads t) h

-- ---- instructions

counts-executed : (most : ℕ) (layout : Layout) (watchdog : ℕ) (replica : Replica) (t : ℕ) (after : Replica) → Instructs layout watchdog replica t after → Counts most replica → Counts (most + 1) after
counts-executed most layout watchdog replica t after step h = subst (Counts (most + 1)) (sym step.is) (λ place thread e. by place thread (get-set-cases replica.threads t place (instructed replica step.thread step.instr) thread e))
  where
    by : (place : ℕ) (thread : Thread) → ((place ≢ t) × (slice_get replica.threads place ≡ Some thread)) ⊎ ((place ≡ t) × (instructed replica step.thread step.instr ≡ thread)) → thread.done ≤ most + 1
    by place thread (inl e) = let c = h place thread e.1 in omega arith
    by place thread (inr e) = let c : step.thread.done ≤ most = h t step.thread step.there in subst (λ (x : Thread). x.done ≤ most + 1) e.1 (omega arith)

-- a run of so many
pub counts-run : (most : ℕ) (layout : Layout) (watchdog n t : ℕ) (replica : Replica) (ran : RanTo) → run_of layout watchdog n replica t ≡ Some ran → Counts most replica → Counts (most + n) ran.replica
counts-run most layout watchdog zero t replica ran e h =
    subst (λ (r : RanTo). Counts (most + 0) r.replica) (some-injective e) (counts-more most (most + 0) (struck layout.ranges replica t).replica (omega arith) (counts-struck most layout.ranges t replica h))
counts-run most layout watchdog (suc n) t replica ran e h =
    let parts : RunParts layout watchdog n replica t ran = run-parts layout watchdog n replica t ran e in
    let first = counts-struck most layout.ranges t replica h in
    let one = counts-executed most layout watchdog (struck layout.ranges replica t).replica t parts.after (instructs layout watchdog (struck layout.ranges replica t).replica t parts.after parts.executes) first in
    let rest = counts-run (most + 1) layout watchdog n t parts.after parts.rest parts.runs one in
    subst (λ (r : RanTo). Counts (most + suc n) r.replica) parts.sum (counts-more (most + 1 + n) (most + suc n) parts.rest.replica (omega arith) rest)

-- ---- effects and copies

counts-made : (most : ℕ) (made : Option Made) (threads : List Thread) → ((place : ℕ) (x : Thread) → slice_get threads place ≡ Some x → x.done ≤ most) → (place : ℕ) (x : Thread) → slice_get (with_made made threads) place ≡ Some x → x.done ≤ most
counts-made most None threads all place x e = all place x e
counts-made most (Some made) [] all place x e = absurd (let f : None ≡ Some x = e in cc)
counts-made most (Some made) (y ∷ threads) all place x e = by (get-append-cases (y ∷ threads) (unstopped (made_cpu made (creator_of made (y ∷ threads) y) (length (y ∷ threads)))) place x e)
  where
    by : (slice_get (y ∷ threads) place ≡ Some x) ⊎ ((place ≡ length (y ∷ threads)) × (unstopped (made_cpu made (creator_of made (y ∷ threads) y) (length (y ∷ threads))) ≡ x)) → x.done ≤ most
    by (inl f) = all place x f
    by (inr f) = subst (λ (z : Thread). z.done ≤ most) f.1 (omega arith)

counts-applied : (most : ℕ) (effect : Effect) (replica : Replica) → Counts most replica → Counts most (cancelled (applied effect replica))
unfolding applied cancelled
counts-applied most effect replica h place thread e = by (get-map (without_cancelled (backed_after effect replica.backed)) (threads_after effect replica.threads) place thread e)
  where
    by : MappedFrom (without_cancelled (backed_after effect replica.backed)) (threads_after effect replica.threads) place thread → thread.done ≤ most
    by m = subst (λ (x : Thread). x.done ≤ most) m.gives
        (counts-made most effect.made (changed_at (thread_after effect) replica.threads effect.thread) (counts-changed most (thread_after effect) (λ x. refl) replica.threads effect.thread h) place m.from m.there)

-- a copy keeps the loser's counts
counts-copied : (most : ℕ) (winners losers : List Thread) → ((place : ℕ) (x : Thread) → slice_get losers place ≡ Some x → x.done ≤ most) → (place : ℕ) (x : Thread) → slice_get (copied_threads winners losers) place ≡ Some x → x.done ≤ most
counts-copied most [] losers all place x e = absurd (let f : None ≡ Some x = e in cc)
counts-copied most (w ∷ winners) [] all place x e = absurd (let f : None ≡ Some x = e in cc)
counts-copied most (w ∷ winners) (l ∷ losers) all zero x e = subst (λ (y : Thread). y.done ≤ most) (some-injective e) (all 0 l refl)
counts-copied most (w ∷ winners) (l ∷ losers) all (suc place) x e = counts-copied most winners losers (λ p y f. all (suc p) y f) place x e

counts-recovered : (most : ℕ) (winner loser : Replica) → Counts most loser → Counts most (recovered winner loser)
unfolding recovered
counts-recovered most winner loser h = counts-copied most winner.threads loser.threads h

-- ---- entries

abbrev EachCounts : (most : ℕ) → List Replica → Type 0
EachCounts most replicas = (number : ℕ) (replica : Replica) → slice_get replicas number ≡ Some replica → Counts most replica

each-copied : (most won : ℕ) (winner : Replica) (lost : List ℕ) (replicas : List Replica) → slice_get replicas won ≡ Some winner → EachCounts most replicas → EachCounts most (with_recovered won lost replicas)
each-copied most won winner [] replicas there h = h
each-copied most won winner (lost ∷ losers) replicas there h =
    let w = still-there won lost replicas winner there in
    each-copied most won w.0 losers (with_copy won lost replicas) w.1 (λ number r e. by number r (after-copy won lost replicas winner number r there e))
  where
    by : (number : ℕ) (r : Replica) → AfterCopy won lost replicas number r → Counts most r
    by number r (not_lost d e) = h number r e
    by number r (is_copy w l same a b e) = subst (Counts most) e (counts-recovered most w l (h lost l b))

counted-event : (most : ℕ) (core : Core) (thread count : ℕ) (replicas : List Replica) (o : Option Event) → EachCounts most replicas → AreCounted most core → AreCounted most (core_after_event core thread count replicas o)
counted-event most core thread count replicas None each h = h
counted-event most core thread count replicas (Some event) each h = λ number r e. by r number (get-map (λ x. cancelled (applied event.effect x)) replicas number r e)
  where
    by : (r : Replica) (number : ℕ) → MappedFrom (λ x. cancelled (applied event.effect x)) replicas number r → Counts most r
    by r number m = subst (Counts most) m.gives (counts-applied most event.effect m.from (each number m.from m.there))

-- a lease that came back
module _ (most : ℕ) (job : Job) (core : Core) (lease : Lease) (count hit : ℕ) (back : Returns job core lease count hit) (few : count ≤ job.settings.quantum) (h : AreCounted most core) (stop : Option Stop) (wishes : (replica thread : ℕ) → List ℕ) (misses : (replica thread : ℕ) → ℕ) where
  came : Counts (most + job.settings.quantum) back.ran.replica
  came =
      let parts = put-parts job core lease count back.ran back.runs in
      counts-more (most + count) (most + job.settings.quantum) back.ran.replica (omega arith)
      (counts-run most (layout_in job.program core.kernel) job.settings.watchdog count lease.thread parts.lent back.ran parts.runs (h lease.replica parts.lent parts.there))

  counted-back : AreCounted (most + job.settings.quantum) (core_after_lease core lease stop wishes misses back.ran.replica)
  counted-back = λ number r e. by number r (get-set-cases core.replicas lease.replica number (stopped lease.thread stop back.ran.replica) r e)
    where
      by : (number : ℕ) (r : Replica) → ((number ≢ lease.replica) × (slice_get core.replicas number ≡ Some r)) ⊎ ((number ≡ lease.replica) × (stopped lease.thread stop back.ran.replica ≡ r)) → Counts (most + job.settings.quantum) r
      by number r (inl e) = counts-more most (most + job.settings.quantum) r (omega arith) (h number r e.1)
      by number r (inr e) = subst (Counts (most + job.settings.quantum)) e.1 (counts-changed (most + job.settings.quantum) (with_stop stop) (λ x. refl) back.ran.replica.threads lease.thread came)

few-arrive : (job : Job) (core : Core) (lease : Lease) (count : ℕ) (replica : Replica) → HasArrived job core lease count replica → count ≤ job.settings.quantum
few-arrive job core lease count replica (inl e) = omega arith
few-arrive job core lease count replica (inr e) = let less : count < job.settings.quantum = e.0 in omega arith

more-counted : (less more : ℕ) (core : Core) → less ≤ more → AreCounted less core → AreCounted more core
more-counted less more core h counts = λ number r e. counts-more less more r h (counts number r e)

counted-after : (most : ℕ) (job : Job) (core : Core) (entry : Entry) → IsAllowed job core entry → AreCounted most core → AreCounted (most + job.settings.quantum) (after job core entry)
unfolding after
counted-after most job core (Take lease) may h = more-counted most (most + job.settings.quantum) (after job core (Take lease)) (omega arith) h
counted-after most job core (Put lease count hit) may h =
    put-by job core lease count hit may (AreCounted (most + job.settings.quantum))
    (counted-back most job core lease count hit may.returns (few-arrive job core lease count may.returns.ran.replica may.arrives) h)
counted-after most job core (Part lease count hit) may h =
    let less : count < job.settings.quantum = may.early in
    part-by job core lease count hit may (AreCounted (most + job.settings.quantum)) (counted-back most job core lease count hit may.returns (omega arith) h)
counted-after most job core (Vote thread count won lost did) may h =
    let e = event-parts job core thread won may.event may.comes in
    more-counted most (most + job.settings.quantum) (core_after_event core thread count (with_recovered won (numbers lost) core.replicas) (event_in job core thread won)) (omega arith)
    (counted-event most core thread count (with_recovered won (numbers lost) core.replicas) (event_in job core thread won) (each-copied most won e.winner (numbers lost) core.replicas e.there h) h)
counted-after most job core (Free thread) may h =
    more-counted most (most + job.settings.quantum) (core_after_event core thread 0 core.replicas (freed_event job core thread)) (omega arith) (counted-event most core thread 0 core.replicas (freed_event job core thread) h h)
counted-after most job core (Scrub won lost) may h =
    let w = scrub-winner core won lost may in
    more-counted most (most + job.settings.quantum) (after job core (Scrub won lost)) (omega arith) (each-copied most won w.0 (numbers lost) core.replicas w.1 h)
counted-after most job core (End how) may h = more-counted most (most + job.settings.quantum) (after job core (End how)) (omega arith) h

counted-from : (most : ℕ) (job : Job) (core : Core) (journal : List Entry) → LegalFrom job core journal → AreCounted most core → AreCounted (most + job.settings.quantum * length journal) (replay_from job core journal)
counted-from most job core [] legal h = more-counted most (most + job.settings.quantum * 0) core (omega arith) h
counted-from most job core (entry ∷ journal) legal h =
    let rest = counted-from (most + job.settings.quantum) job (after job core entry) journal legal.1 (counted-after most job core entry legal.0 h) in
    more-counted (most + job.settings.quantum + job.settings.quantum * length journal) (most + job.settings.quantum * suc (length journal)) (replay_from job (after job core entry) journal) (grind arith) rest

opening-counts : (job : Job) (number : ℕ) → Counts 0 (opening_replica job.program.image job.faults number)
unfolding opening_replica
opening-counts job number place thread e = subst (λ (x : Thread). x.done ≤ 0) (one-thread _ place thread e).1 (omega arith)

-- in a legal journal a thread retires no more than a quantum for each entry
pub counted : (job : Job) (journal : List Entry) → Legal job journal → AreCounted (job.settings.quantum * length journal) (replay job journal)
unfolding opening_core
counted job journal legal =
    let all : AreCounted 0 (opening_core job) = λ number r e. subst (Counts 0) (get-opening job job.settings.replicas number r e) (opening-counts job number) in
    more-counted (0 + job.settings.quantum * length journal) (job.settings.quantum * length journal) (replay job journal) (omega arith) (counted-from 0 job (opening_core job) journal legal all)
