-- The invariant after an entry whose event is a step of the machine: a vote or a free.
use Rattle.std.specs.Prelude.{◌≡◌, ℕ, ◌+◌, ◌<◌, Bool, true, false, IsTrue, cond, ◌==◌, List, [], ◌∷◌, ◌++◌, replicate, length, Some, None, slice_get}
use Rattle.std.specs.Option.{option_and_then}
use Rattle.std.specs.List.{list_any}
use Rattle.std.proofs.Common.{refl, sym, ap, ◌∙◌, subst, arith, append_assoc, append-nil, length-append}
use Rattle.std.proofs.lemmas.Bool.{true≢false, eqb-true, eq-eqb, and_parts}
use Rattle.std.proofs.lemmas.List.{nil_from_length}
use Rattle.std.proofs.Math.ListN.{length-replicate}
use Rattle.ro_event.specs.declared.calls.Call.{Call}
use Rattle.ro_event.specs.declared.stops.Stop.{Stop}
use Rattle.ro_journal.specs.declared.Entry.{Entry}
use Rattle.ro_journal.specs.Plan.{event_steps, entry_plan, plan_of}
use Rattle.ro_kernel.specs.Kernel.{Kernel, lives_on}
use Rattle.ro_exec.specs.Next.{Backed}
use Rattle.ro_thread.specs.declared.Thread.{Thread}
use Rattle.ro_thread.specs.Stops.{standing}
use Rattle.ro_replica.specs.Replica.{Replica, applied, cancelled}
use Rattle.ro_plain.specs.Machine.{Machine, opening, run, BackedRun, layout_in}
use Rattle.ro_plain.proofs.Ahead.{is-none-from}
use Rattle.ro_plain.proofs.Swap.{run-append}
use Rattle.ro_journal.specs.declared.Lease.{Lease}
use Rattle.ro_legal.specs.Core.{Job, Core, is_going, nothing_lent, is_lease, is_out}
use Rattle.ro_legal.specs.Event.{Event, core_after}
use Rattle.ro_legal.specs.Ideal.{ideal}
use Rattle.ro_legal.specs.Sound.{IsSound}
use Rattle.ro_vote.specs.Numbers.{is_among, AtMostHalf}
use Rattle.ro_simulation.specs.Invariant.{Agrees, StandsAtCall, TracksIdeal}
use Rattle.ro_plain.proofs.StaysAfter.{live-within}
use Rattle.ro_simulation.proofs.Ahead.{KeepsRest, BackedRun-keeps, BackedRun-run}
use Rattle.ro_legal.proofs.Lists.{MappedFrom, get-map, length-mapped}
use Rattle.ro_legal.proofs.Effects.{backed_after, sound-applied}
use Rattle.ro_legal.proofs.Served.{made_count}
use Rattle.ro_simulation.proofs.Steps.{EventStep}
use Rattle.ro_simulation.proofs.Views.{Comes}

-- ---- plans

-- the plan of two parts
pub plan-append : (xs ys : List Entry) → plan_of (xs ++ ys) ≡ plan_of xs ++ plan_of ys
plan-append [] ys = refl
plan-append (x ∷ xs) ys = ap (λ (r : List ℕ). entry_plan x ++ r) (plan-append xs ys) ∙ sym (append_assoc (entry_plan x) (plan_of xs) (plan_of ys))

-- the plan with one more entry
pub plan-snoc : (journal : List Entry) (entry : Entry) → plan_of (journal ++ entry ∷ []) ≡ plan_of journal ++ entry_plan entry
plan-snoc journal entry = plan-append journal (entry ∷ []) ∙ ap (λ (r : List ℕ). plan_of journal ++ r) (append-nil (entry_plan entry))

-- an entry without steps leaves the plan
pub plan-same : (journal : List Entry) (entry : Entry) → entry_plan entry ≡ [] → plan_of (journal ++ entry ∷ []) ≡ plan_of journal
plan-same journal entry none = plan-snoc journal entry ∙ (ap (λ (r : List ℕ). plan_of journal ++ r) none ∙ append-nil (plan_of journal))

-- an entry without steps leaves the machine
pub ideal-same : (job : Job) (journal : List Entry) (entry : Entry) → entry_plan entry ≡ [] → ideal job (journal ++ entry ∷ []) ≡ ideal job journal
ideal-same job journal entry none =
    ap (run job.program (opening job.program)) (plan-snoc journal entry ∙ (ap (λ (r : List ℕ). plan_of journal ++ r) none ∙ append-nil (plan_of journal)))

-- ---- what an allowed vote or free says

-- no end has come, and none must
pub record Going (core : Core) : Type 0 where
  pub not_due : core.due ≡ None
  pub not_ended : core.ended ≡ None

-- the test says so
pub going-from : (core : Core) → is_going core ≡ true → Going core
going-from core h = let p = and_parts _ _ h in record { not_due = is-none-from core.due p.0; not_ended = is-none-from core.ended p.1 }

-- the test says that nothing is lent
pub none-lent : (core : Core) → nothing_lent core ≡ true → core.leases ≡ []
none-lent core h = nil_from_length core.leases (eqb-true (length core.leases) 0 h)

-- where nothing is lent no lease is out
none-out : (leases : List Lease) (core : Core) (lease : Lease) → core.leases ≡ leases → leases ≡ [] → is_out core lease ≡ false
none-out leases core lease e f =
    ap (list_any (is_lease lease)) (e ∙ f)

-- ---- the invariant after the event

-- what the event needs of a replica that agrees
pub record Meets (job : Job) (machine middle : Machine) (backed : Backed) (t : ℕ) (event : Event) (r : Replica) : Type 0 where
  pub agree : Agrees job machine r
  pub thread : Thread
  pub there : slice_get r.threads t ≡ Some thread
  pub comes : Comes job backed machine middle r t thread
  pub own_stop : (stop : Stop) → event.effect.releases ≡ false → thread.stop ≡ Some stop → standing (layout_in job.program machine.kernel) job.settings.watchdog r.backed r.memory thread.cpu 0 ≡ Some stop

module _ (job : Job) (odds : List ℕ) (journal : List Entry) (core : Core) (h : TracksIdeal job odds journal core) (going : h.machine.ended ≡ None) (no_lease : core.leases ≡ []) (t count : ℕ) (live : IsTrue (lives_on h.machine.kernel t)) (middle : Machine) (own : BackedRun job.program h.backed h.machine (replicate count t) middle) (event : Event) (after : Machine) (step : EventStep job h.backed h.machine middle t event after)
    (entry : Entry) (plan_is : entry_plan entry ≡ replicate count t ++ replicate (event_steps event.did) t) (replicas : List Replica) (as_many : length replicas ≡ length core.replicas) (sound : (number : ℕ) (r : Replica) → slice_get replicas number ≡ Some r → IsSound job core h.backed number r) (odds' : List ℕ) (few' : AtMostHalf job.settings.replicas odds') where
  -- the thread's own steps keep the kernel
  kept : KeepsRest h.machine middle
  kept = BackedRun-keeps job.program h.backed own

  -- the ideal machine after the entry
  ideal_after : ideal job (journal ++ entry ∷ []) ≡ Some after
  ideal_after =
      ap (run job.program (opening job.program)) (plan-snoc journal entry ∙ ap (λ (r : List ℕ). plan_of journal ++ r) plan_is)
      ∙ (run-append job.program (opening job.program) (plan_of journal) (replicate count t ++ replicate (event_steps event.did) t)
      ∙ (ap (option_and_then (λ m. run job.program m (replicate count t ++ replicate (event_steps event.did) t))) h.ideal_is
      ∙ (run-append job.program h.machine (replicate count t) (replicate (event_steps event.did) t)
      ∙ (ap (option_and_then (λ m. run job.program m (replicate (event_steps event.did) t))) (BackedRun-run job.program h.backed own)
      ∙ step.run_event))))

  -- some thread was made
  some_life : 0 < length core.kernel.lives
  some_life =
      let low = live-within h.machine.kernel.lives t live in
      let same : length core.kernel.lives ≡ length h.machine.kernel.lives = ap (λ (k : Kernel). length k.lives) h.same_kernel in omega arith

  -- one life for each thread after the event
  lives_after : length event.kernel.lives ≡ length core.kernel.lives + made_count event.effect.made
  lives_after = ap (λ (k : Kernel). length k.lives) step.same_kernel
      ∙ (step.one_life_each ∙ ap (λ (k : Kernel). length k.lives + made_count event.effect.made) (sym h.same_kernel))

  -- what holds of every replica after the event
  sound_after : (number : ℕ) (r : Replica) → MappedFrom (λ x. cancelled (applied event.effect x)) replicas number r → IsSound job (core_after core t count replicas event) (backed_after event.effect h.backed) number r
  sound_after number r m = subst (IsSound job (core_after core t count replicas event) (backed_after event.effect h.backed) number) m.gives
      (sound-applied job core (core_after core t count replicas event) h.backed number m.from event.effect lives_after some_life (sound number m.from m.there))

  -- blocked threads after the event
  blocked_after : (u : ℕ) (call : Call) → (b : Bool) → (u == t) ≡ b → cond b event.blocked (core.blocked u) ≡ Some call → after.ended ≡ None → StandsAtCall job.program after u call
  blocked_after u call true e f on = subst (λ (n : ℕ). StandsAtCall job.program after n call) (sym (eqb-true u t e)) (step.own_blocked call f)
  blocked_after u call false e f on =
      step.others_stand u call (λ (same : u ≡ t). true≢false (sym (eq-eqb u t same) ∙ e)) (h.blocked_stands u call f going) on

  -- the replicas that agree after the event
  agrees_after : ((number : ℕ) (r : Replica) → is_among odds' number ≡ false → slice_get replicas number ≡ Some r → Meets job h.machine middle h.backed t event r) → after.ended ≡ None → (number : ℕ) (r : Replica) → is_among odds' number ≡ false → MappedFrom (λ x. cancelled (applied event.effect x)) replicas number r → Agrees job after r
  agrees_after meets on number r d m =
      let k = meets number m.from d m.there in
      let s = sound number m.from m.there in
      subst (Agrees job after) m.gives
      (step.agrees on m.from k.thread s.same_backed k.there (s.all_made ∙ ap (λ (k : Kernel). length k.lives) h.same_kernel) k.comes k.agree.stops k.own_stop)

  -- the plan's length after the entry
  steps_after : core.steps + count + event_steps event.did ≡ length (plan_of (journal ++ entry ∷ []))
  steps_after =
      let whole = ap length (plan-snoc journal entry ∙ ap (λ (r : List ℕ). plan_of journal ++ r) plan_is) in
      let front = length-append (plan_of journal) (replicate count t ++ replicate (event_steps event.did) t) in
      let back = length-append (replicate count t) (replicate (event_steps event.did) t) in
      let one = length-replicate count t in
      let other = length-replicate (event_steps event.did) t in
      let before = h.steps_are in
      omega arith

  -- the invariant after the entry
  pub event-holds : ((number : ℕ) (r : Replica) → is_among odds' number ≡ false → slice_get replicas number ≡ Some r → Meets job h.machine middle h.backed t event r) → TracksIdeal job odds' (journal ++ entry ∷ []) (core_after core t count replicas event)
  event-holds meets = record {
    machine = after;
    ideal_is = ideal_after;
    same_kernel = step.same_kernel;
    same_output = ap (λ (o : List ℕ). o ++ event.payload) (h.same_output ∙ sym kept.same_output) ∙ step.same_output;
    same_end = step.same_end;
    steps_are = steps_after;
    ends_well = step.ends_well;
    not_ended = h.not_ended;
    as_many = step.as_many;
    few = few';
    replica_count = length-mapped _ replicas ∙ (as_many ∙ h.replica_count);
    no_sides = h.no_sides;
    backed = backed_after event.effect h.backed;
    sound = λ number r e. sound_after number r (get-map _ replicas number r e);
    lent_live = λ lease e. absurd (true≢false (sym e ∙ none-out core.leases core lease refl no_lease));
    blocked_stands = λ u call e on. blocked_after u call (u == t) refl e on;
    others_agree = λ on number r d e. agrees_after meets on number r d (get-map _ replicas number r e);
  }
