-- What an event keeps of replicas, kernel and counts in a cooperative run.
use Rattle.std.specs.Prelude.{◌≡◌, ℕ, zero, suc, ◌+◌, ◌≤◌, ◌<◌, Bool, true, false, cond, ◌==◌, IfSome, List, [], ◌∷◌, ◌++◌, length, map, Option, Some, None, slice_get}
use Rattle.std.specs.Option.{option_map_or}
use Rattle.std.proofs.Common.{refl, sym, ap, ◌∙◌, subst, arith}
use Rattle.std.proofs.lemmas.Bool.{true≢false, eqb-true, eq-eqb}
use Rattle.ro_event.specs.declared.calls.Call.{Call}
use Rattle.ro_event.specs.declared.calls.Which.TheVariants.{Function}
use Rattle.ro_event.specs.declared.functions.Function.TheVariants.{Wait}
use Rattle.ro_event.specs.declared.effects.Made.{Made}
use Rattle.ro_event.specs.declared.stops.Stop.{Stop}
use Rattle.ro_event.specs.Effects.{Effect}
use Rattle.ro_condition.proofs.Whose.{is_waiting}
use Rattle.ro_condition.specs.declared.waiters.Waiter.{Waiter}
use Rattle.ro_faults.specs.declared.Fault.{Fault}
use Rattle.ro_journal.specs.declared.Did.{Did}
use Rattle.ro_journal.specs.declared.Did.TheVariants.{Served as WasServed, Blocked as WasBlocked, Parked as WasParked, PageBacked, Watch, Trapped}
use Rattle.ro_journal.specs.Plan.{event_steps}
use Rattle.ro_kernel.specs.Kernel.{Kernel, released, live_option, lives_on}
use Rattle.ro_kernel.specs.declared.Life.{Life}
use Rattle.ro_thread.specs.declared.Thread.{Thread}
use Rattle.ro_replica.specs.Replica.{Replica, applied, cancelled}
use Rattle.ro_plain.proofs.Calls.{some-injective}
use Rattle.ro_orders.specs.Choices.{chosen_of}
use Rattle.ro_peer.specs.declared.mutexes.Mutex.{Mutex}
use Rattle.ro_peer.specs.Events.{without_own}
use Rattle.ro_legal.specs.Core.{Job, Core}
use Rattle.ro_legal.specs.Sides.{Side}
use Rattle.ro_legal.specs.Event.{Event}
use Rattle.ro_legal.specs.Sound.{IsSound, IsFault}
use Rattle.ro_legal.specs.Kept.{IsUnstruck, KeepsReplicas}
use Rattle.ro_legal.specs.Cooperative.{most_done, kernel_for, entered_by, replica_after, replicas_after, core_after, settled, after}
use Rattle.ro_legal.proofs.Lists.{get-map, length-mapped}
use Rattle.ro_legal.proofs.Served.{made_count}
use Rattle.ro_legal.proofs.Happens.{Happens}
use Rattle.ro_legal.proofs.Effects.{backed_after, sound-applied}
use Rattle.ro_legal.proofs.FaultStops.{fault-applied}
use Rattle.ro_legal.proofs.TogetherRuns.{unstruck-with, fault-voted}
use Rattle.ro_legal.proofs.TogetherCounts.{AtMost, KeepsCounts, counted-fits, steps-bounded, done-least, most-least, most-of, after-event}

-- what each entry keeps, with the counts from which the bounds come
pub record IsKept (job : Job) (core : Core) : Type 0 where
  pub kept : KeepsReplicas job core
  pub counted : KeepsCounts job core

-- every replica of the core
abbrev pub AllUnstruck : Job → Core → List Replica → Type 0
AllUnstruck job core replicas = (number : ℕ) (replica : Replica) → slice_get replicas number ≡ Some replica → IsUnstruck job core replica

-- ---- an event in a replica

-- a replica behind an event
record AfterFrom (effect : Effect) (entered : List Mutex) (replicas : List Replica) (sides : List Side) (number : ℕ) (after : Replica) : Type 0 where
  pub replica : Replica
  pub side : Side
  pub there : slice_get replicas number ≡ Some replica
  pub gives : replica_after effect entered side replica ≡ after

after-from : (effect : Effect) (entered : List Mutex) (replicas : List Replica) (sides : List Side) (number : ℕ) (r : Replica) → slice_get (replicas_after effect entered replicas sides) number ≡ Some r → AfterFrom effect entered replicas sides number r
after-from effect entered [] sides number r e = absurd (let f : None ≡ Some r = e in cc)
after-from effect entered (x ∷ replicas) [] number r e = absurd (let f : None ≡ Some r = e in cc)
after-from effect entered (x ∷ replicas) (side ∷ sides) zero r e = record { replica = x; side = side; there = refl; gives = some-injective e }
after-from effect entered (x ∷ replicas) (side ∷ sides) (suc number) r e =
    let f = after-from effect entered replicas sides number r e in record { replica = f.replica; side = f.side; there = f.there; gives = f.gives }

length-after : (effect : Effect) (entered : List Mutex) (replicas : List Replica) (sides : List Side) → length sides ≡ length replicas → length (replicas_after effect entered replicas sides) ≡ length replicas
length-after effect entered [] sides e = refl
length-after effect entered (x ∷ replicas) [] e = absurd (omega arith)
length-after effect entered (x ∷ replicas) (side ∷ sides) e = ap suc (length-after effect entered replicas sides (omega arith))

-- where no fault waits it is sound
as-sound : (job : Job) (core : Core) (replica : Replica) → IsUnstruck job core replica → IsSound job core replica.backed 0 replica
as-sound job core replica h = record {
  same_backed = refl;
  all_made = h.all_made;
  within_watch = h.within_watch;
  own_faults = λ fault e. absurd (let f : None ≡ Some fault = ap (λ (fs : List Fault). slice_get fs e.0) (sym h.no_faults) ∙ e.1 in cc);
}

none-waiting : (effect : Effect) (replica : Replica) → replica.waiting ≡ [] → (cancelled (applied effect replica)).waiting ≡ []
unfolding applied cancelled
none-waiting effect replica e = e

unstruck-applied : (job : Job) (core after : Core) (effect : Effect) (replica : Replica) → length after.kernel.lives ≡ length core.kernel.lives + made_count effect.made → 0 < length core.kernel.lives → IsUnstruck job core replica → IsUnstruck job after (cancelled (applied effect replica))
unstruck-applied job core after effect replica lives some h = record {
  all_made = sound.all_made;
  within_watch = sound.within_watch;
  no_faults = none-waiting effect replica h.no_faults;
  faults_wait = fault-applied effect replica h.faults_wait;
}
  where
    sound : IsSound job after (backed_after effect replica.backed) 0 (cancelled (applied effect replica))
    sound = sound-applied job core after replica.backed 0 replica effect lives some (as-sound job core replica h)

-- stops at calls that the replica answers by itself go
unstruck-without : (job : Job) (core : Core) (mutexes : List Mutex) (replica : Replica) → IsUnstruck job core replica → IsUnstruck job core (record replica { threads = map (without_own mutexes) replica.threads })
unstruck-without job core mutexes replica h = record {
  all_made = length-mapped _ replica.threads ∙ h.all_made;
  within_watch = λ place thread e. let m = get-map (without_own mutexes) replica.threads place thread e in
      subst (λ (n : ℕ). n ≤ job.settings.watchdog) (ap (λ (x : Thread). x.since) m.gives) (h.within_watch place m.from m.there);
  no_faults = h.no_faults;
  faults_wait = λ place thread e. let m = get-map (without_own mutexes) replica.threads place thread e in
      subst (λ (x : Thread). IsFault replica.backed x.stop) m.gives (fault-voted replica.backed mutexes m.from.stop (h.faults_wait place m.from m.there));
}

-- ---- an event

-- an event adds one step at the most
pub event-steps-few : (did : Did) → event_steps did ≤ 1
event-steps-few WasServed = omega arith
event-steps-few WasBlocked = omega arith
event-steps-few WasParked = omega arith
event-steps-few PageBacked = omega arith
event-steps-few Watch = omega arith
event-steps-few Trapped = omega arith

module _ (job : Job) (core : Core) (k : IsKept job core) (thread : ℕ) (stop : Option Stop) (event : Event) (live : lives_on core.kernel thread ≡ true) (alone : core.leases ≡ []) (going : core.due ≡ None) (still : core.ended ≡ None) (happens : Happens core.kernel thread event) (fits : core.steps + event_steps event.did ≤ job.settings.limit) where
  h : KeepsReplicas job core
  h = k.kept

  behind : Core
  behind = core_after job core thread stop event

  entered : List Mutex
  entered = entered_by (chosen_of job.program) core.kernel event.kernel stop

  from : (number : ℕ) (r : Replica) → slice_get behind.replicas number ≡ Some r → AfterFrom event.effect entered core.replicas core.sides number r
  unfolding behind entered
  from number r e = after-from event.effect _ core.replicas core.sides number r e

  lives-are : length behind.kernel.lives ≡ length core.kernel.lives + made_count event.effect.made
  unfolding behind
  lives-are = happens.lives_are

  steps-fit : behind.steps ≤ job.settings.limit
  unfolding behind
  steps-fit = fits

  steps-grow : core.steps ≤ behind.steps
  unfolding behind
  steps-grow = omega arith

  unstruck-after : AllUnstruck job behind behind.replicas
  unstruck-after number r e =
      let f = from number r e in
      subst (IsUnstruck job behind) f.gives
      (unstruck-without job behind (f.side.mutexes ++ entered) (cancelled (applied event.effect f.replica)) (unstruck-applied job core behind event.effect f.replica lives-are h.some_life (h.unstruck number f.replica f.there)))

  done-after : (number : ℕ) (r : Replica) → slice_get behind.replicas number ≡ Some r → AtMost (λ u. most_done core.replicas u) r.threads
  done-after number r e =
      let f = from number r e in
      subst (λ (y : Replica). AtMost (λ u. most_done core.replicas u) y.threads) f.gives (after-event (λ u. most_done core.replicas u) event.effect entered f.side f.replica (most-of core.replicas number f.replica f.there))

  counted-after : KeepsCounts job behind
  counted-after = counted-fits job behind (λ u. most-least behind.replicas u behind.steps (λ number r e. done-least r u behind.steps (within u number r e))) steps-fit
    where
      within : (u number : ℕ) (r : Replica) → slice_get behind.replicas number ≡ Some r → (x : Thread) → slice_get r.threads u ≡ Some x → x.done ≤ behind.steps
      within u number r e x at =
          let low : x.done ≤ most_done core.replicas u = done-after number r e u x at in
          let steps = k.counted.within u in
          let more = steps-grow in
          omega arith

  blocked-after : (u : ℕ) (call : Call) → event.due ≡ None → (b : Bool) → (u == thread) ≡ b → cond b event.blocked (core.blocked u) ≡ Some call → lives_on event.kernel u ≡ true
  blocked-after u call on true e f =
      ap (λ (n : ℕ). lives_on event.kernel n) (eqb-true u thread e) ∙ happens.blocks_live call f ∙ live
  blocked-after u call on false e f = happens.others_live on u (λ (same : u ≡ thread). true≢false (sym (eq-eqb u thread same) ∙ e)) (h.blocked_live going still u call f)

  begun-after : (u : ℕ) (call : Call) → event.due ≡ None → (b : Bool) → (u == thread) ≡ b → cond b event.blocked (core.blocked u) ≡ Some call → call.which ≡ Function Wait → is_waiting event.kernel.waiters u ≡ true
  begun-after u call on true e f w = ap (is_waiting event.kernel.waiters) (eqb-true u thread e) ∙ happens.waits_begun call f w
  begun-after u call on false e f w = happens.others_wait on u (λ (same : u ≡ thread). true≢false (sym (eq-eqb u thread same) ∙ e)) ∙ h.waits_begun going still u call f w

  few-after : (made : Option Made) → length event.kernel.lives ≡ length core.kernel.lives + made_count made → IfSome made (λ m. length core.kernel.lives < 16) → length event.kernel.lives ≤ 16
  few-after None e left = let few = h.few_lives in omega arith
  few-after (Some made) e left = omega arith

  pub kept-event : IsKept job (core_after job core thread stop event)
  unfolding behind
  kept-event = record {
    kept = record {
      replica_count = length-after event.effect _ core.replicas core.sides (h.side_count ∙ sym h.replica_count) ∙ h.replica_count;
      side_count = length-mapped _ core.sides ∙ h.side_count;
      unstruck = unstruck-after;
      some_life = let more : length event.kernel.lives ≡ length core.kernel.lives + made_count event.effect.made = happens.lives_are in let some = h.some_life in omega arith;
      few_lives = few-after event.effect.made happens.lives_are happens.place_left;
      blocked_live = λ on ended u call e. blocked-after u call on (u == thread) refl e;
      waits_begun = λ on ended u call e w. begun-after u call on (u == thread) refl e w;
      due_alone = λ how e. alone;
      due_over = happens.ends_well;
      wrote_alone = λ some. alone;
      done_within = counted-after.within;
      steps_within = steps-bounded job behind unstruck-after counted-after;
    };
    counted = counted-after;
  }

-- ---- the kernel that serves a thread

module _ (core : Core) (thread : ℕ) where
  -- is the kernel, or that in which the thread's reservation has ended
  either : (P : Kernel → Type 0) → P core.kernel → P (released core.kernel thread) → P (kernel_for core thread)
  either P same ended = by (slice_get core.sides 0)
    where
      one : (b : Bool) → P (cond b (released core.kernel thread) core.kernel)
      one true = ended
      one false = same

      by : (o : Option Side) → P (option_map_or (λ (side : Side). cond (side.answered thread) (released core.kernel thread) core.kernel) o core.kernel)
      by None = same
      by (Some side) = one (side.answered thread)

  for-lives : (kernel_for core thread).lives ≡ core.kernel.lives
  for-lives = either (λ kernel. kernel.lives ≡ core.kernel.lives) refl refl

  for-waiters : (kernel_for core thread).waiters ≡ core.kernel.waiters
  for-waiters = either (λ kernel. kernel.waiters ≡ core.kernel.waiters) refl refl

  pub for-live : (u : ℕ) → lives_on (kernel_for core thread) u ≡ lives_on core.kernel u
  for-live u = ap (λ (lives : List Life). live_option (slice_get lives u)) for-lives

  pub kept-settled : (job : Job) → IsKept job core → IsKept job (settled core thread)
  kept-settled job k = let h = k.kept in record {
    kept = record {
      replica_count = h.replica_count;
      side_count = h.side_count;
      unstruck = λ number r e. unstruck-with job core (settled core thread) r (ap length (sym for-lives)) (h.unstruck number r e);
      some_life = subst (λ (lives : List Life). 0 < length lives) (sym for-lives) h.some_life;
      few_lives = subst (λ (lives : List Life). length lives ≤ 16) (sym for-lives) h.few_lives;
      blocked_live = λ on ended u call e. for-live u ∙ h.blocked_live on ended u call e;
      waits_begun = λ on ended u call e w. ap (λ (waiters : List Waiter). is_waiting waiters u) for-waiters ∙ h.waits_begun on ended u call e w;
      due_alone = h.due_alone;
      due_over = h.due_over;
      wrote_alone = h.wrote_alone;
      done_within = h.done_within;
      steps_within = h.steps_within;
    };
    counted = record { within = k.counted.within; behind = k.counted.behind; since = k.counted.since; fits = k.counted.fits };
  }
