-- The invariant after a free: the blocked call is served where the thread stands, in the machine and in every replica.
use Rattle.std.specs.Prelude.{◌≡◌, ℕ, zero, suc, Bool, true, false, not, IsTrue, List, [], ◌∷◌, ◌++◌, replicate, length, Option, Some, None, slice_get}
use Rattle.std.specs.Option.{option_map, option_map_or}
use Rattle.std.proofs.Common.{refl, sym, ap, ap₂, ◌∙◌, subst, arith}
use Rattle.std.proofs.lemmas.Bool.{false≢true, and_parts}
use Rattle.ro_event.specs.declared.calls.Call.{Call}
use Rattle.ro_event.specs.declared.stops.Stop.TheVariants.{Calls}
use Rattle.ro_journal.specs.declared.Entry.{Entry}
use Rattle.ro_journal.specs.declared.Entry.TheVariants.{Free}
use Rattle.ro_journal.specs.Plan.{event_steps, plan_of}
use Rattle.ro_kernel.specs.Kernel.{Kernel, lives_on}
use Rattle.ro_event.specs.declared.calls.Which.{Which}
use Rattle.ro_event.specs.declared.calls.Which.TheVariants.{System, Function, Atomic}
use Rattle.ro_kernel.proofs.Words.{asked-same}
use Rattle.ro_kernel.specs.Serve.{Served, Done, Parked, Blocked, Ends, serve, is_served, serves, put_out, asked}
use Rattle.ro_exec.specs.Next.{Stands, Executes}
use Rattle.ro_thread.specs.declared.Thread.{Thread}
use Rattle.ro_thread.specs.Stops.{standing}
use Rattle.ro_replica.specs.Replica.{Replica}
use Rattle.ro_plain.specs.Machine.{setup_of, Machine, next_of, IsExecution, BackedRun, nothing_left, layout_in}
use Rattle.ro_plain.specs.Order.{RaceFree}
use Rattle.ro_plain.proofs.Calls.{some-injective, steppable-parts}
use Rattle.ro_legal.specs.Core.{Job, Core, may_free}
use Rattle.ro_legal.specs.Event.{Event, call_event, core_after}
use Rattle.ro_legal.specs.Legal.{freed_event, core_after_event, after, MayFree}
use Rattle.ro_vote.specs.Numbers.{is_among}
use Rattle.ro_simulation.specs.Invariant.{Agrees, StandsAtCall, TracksIdeal}
use Rattle.ro_plain.proofs.StaysAfter.{live-within}
use Rattle.ro_simulation.proofs.Ahead.{BackedRun-head, plain-executes}
use Rattle.ro_legal.proofs.Lists.{get-within}
use Rattle.ro_simulation.proofs.Views.{Comes, comes-by, none-left}
use Rattle.ro_simulation.proofs.Steps.{HasEvent, step-of-call}
use Rattle.ro_simulation.proofs.Votes.{run-more}
use Rattle.ro_simulation.proofs.Kept.{Going, going-from, none-lent, Meets, event-holds}

-- the blocked call of a free that is allowed
pub record FreeParts (job : Job) (core : Core) (t : ℕ) : Type 0 where
  pub going : Going core
  pub no_lease : core.leases ≡ []
  pub call : Call
  pub is_blocked_on : core.blocked t ≡ Some call
  pub served : serves (setup_of job.program) core.kernel t call ≡ true

-- what is denied is false
pub not-true-from : (b : Bool) → not b ≡ true → b ≡ false
not-true-from true h = absurd (false≢true h)
not-true-from false h = refl

-- a free that is allowed has its call
pub free-parts : (job : Job) (core : Core) (t : ℕ) → may_free job core t ≡ true → FreeParts job core t
free-parts job core t h =
    let a = and_parts _ _ h in let b = and_parts _ _ a.0 in by (going-from core b.0) (none-lent core b.1) (core.blocked t) refl a.1
  where
    by : Going core → core.leases ≡ [] → (o : Option Call) → core.blocked t ≡ o → option_map_or (λ call. serves (setup_of job.program) core.kernel t call) o false ≡ true → FreeParts job core t
    by g l None e f = absurd (false≢true f)
    by g l (Some call) e f = record { going = g; no_lease = l; call = call; is_blocked_on = e; served = f }

-- a call that would be done is one step
one-step : (kernel : Kernel) (t : ℕ) (call : Call) (served : Served) → is_served served ≡ true → event_steps (call_event kernel t call [] served).did ≡ 1
one-step kernel t call (Done after effect) e = refl
one-step kernel t call (Parked after) e = absurd (false≢true e)
one-step kernel t call Blocked e = absurd (false≢true e)
one-step kernel t call (Ends after how) e = refl

-- of no payload nothing goes out
nothing-out : (w : Which) → put_out w [] ≡ []
nothing-out (System number) = refl
nothing-out (Function function) = refl
nothing-out (Atomic word) = refl

module _ (job : Job) (free : RaceFree job.program) (odds : List ℕ) (journal : List Entry) (core : Core) (h : TracksIdeal job odds journal core) (t : ℕ) (parts : FreeParts job core t) where
  -- the program goes on at a free
  going : h.machine.ended ≡ None
  going = sym h.same_end ∙ parts.going.not_due

  -- the thread stands at its call
  stands : StandsAtCall job.program h.machine t parts.call
  stands = h.blocked_stands t parts.call parts.is_blocked_on (sym h.same_end ∙ parts.going.not_due)

  -- the thread lives
  live : IsTrue (lives_on h.machine.kernel t)
  live = (steppable-parts h.machine t stands.cpu stands.live).live

  -- the event of the call
  has-event : HasEvent job h.backed h.machine h.machine t (call_event h.machine.kernel t parts.call [] (serve (setup_of job.program) h.machine.kernel t parts.call))
  has-event = subst (λ (e : Event). HasEvent job h.backed h.machine h.machine t e) same-event (step-of-call job free (plan_of journal) h.backed h.machine h.machine h.ideal_is going t 0 live nothing_left stands.cpu stands.live h.as_many parts.call stands.stands [] (sym (stands.writes_nothing _ h.machine.memory)))
    where
      same-event : call_event h.machine.kernel t parts.call (put_out parts.call.which []) (serve (setup_of job.program) h.machine.kernel t (asked parts.call [])) ≡ call_event h.machine.kernel t parts.call [] (serve (setup_of job.program) h.machine.kernel t parts.call)
      same-event = ap₂ (λ (p : List ℕ) (c : Call). call_event h.machine.kernel t parts.call p (serve (setup_of job.program) h.machine.kernel t c)) (nothing-out parts.call.which) (asked-same parts.call [] stands.plain)

  -- the core's event is that one
  freed-is : freed_event job core t ≡ Some (call_event h.machine.kernel t parts.call [] (serve (setup_of job.program) h.machine.kernel t parts.call))
  freed-is = ap (option_map (λ call. call_event core.kernel t call [] (serve (setup_of job.program) core.kernel t call))) parts.is_blocked_on
      ∙ ap (λ (k : Kernel). Some (call_event k t parts.call [] (serve (setup_of job.program) k t parts.call))) h.same_kernel

  -- the call would be done in the machine
  unblocked : is_served (serve (setup_of job.program) h.machine.kernel t parts.call) ≡ true
  unblocked = ap (λ (k : Kernel). is_served (serve (setup_of job.program) k t parts.call)) (sym h.same_kernel) ∙ parts.served

  -- a blocked thread has not run ahead
  module _ (r : Replica) (agree : Agrees job h.machine r) (thread : Thread) (there : slice_get r.threads t ≡ Some thread) where
    -- a thread that stands at a call runs nothing
    cannot-run : (n : ℕ) (middle : Machine) → BackedRun job.program h.backed h.machine (replicate (suc n) t) middle → ⊥
    cannot-run n middle runs =
        let head = BackedRun-head job.program h.backed h.machine middle t (replicate n t) runs in
        let same : stands.cpu ≡ head.backed_step.cpu = some-injective (sym stands.live ∙ head.backed_step.live) in
        let e : Stands (Calls parts.call) ≡ Executes head.backed_step.instr = sym stands.stands ∙ (ap (next_of job.program h.machine) same ∙ plain-executes job.program h.backed h.machine t head.backed_step) in cc

    -- so its count is 0
    no-count : (n : ℕ) (middle : Machine) → BackedRun job.program h.backed h.machine (replicate n t) middle → (n ≡ 0) × (h.machine ≡ middle)
    no-count zero middle runs = (refl, none-left job.program h.backed runs)
    no-count (suc n) middle runs = absurd (cannot-run n middle runs)

    -- what the event needs of a replica
    meets-free : (same : r.backed ≡ h.backed) (event : Event) → Meets job h.machine h.machine h.backed t event r
    meets-free same event =
        let by = comes-by job free (plan_of journal) h.machine h.ideal_is going h.backed r same agree.runs_ahead t thread live there in
        let none = no-count thread.since by.0 by.1.own in
        record {
          agree = agree;
          thread = thread;
          there = there;
          comes = subst (λ (m : Machine). Comes job h.backed h.machine m r t thread) (sym none.1) by.1;
          own_stop = λ stop released stopped.
              ap (λ (n : ℕ). standing (layout_in job.program h.machine.kernel) job.settings.watchdog r.backed r.memory thread.cpu n) (sym none.0)
              ∙ (agree.stops t).stands thread stop live there stopped;
        }

  -- the core after the free
  after-is : core_after core t 0 core.replicas (call_event h.machine.kernel t parts.call [] (serve (setup_of job.program) h.machine.kernel t parts.call)) ≡ after job core (Free t)
  unfolding after
  after-is = ap (core_after_event core t 0 core.replicas) (sym freed-is)

  -- what the event needs of each replica that agrees
  meets-at : (number : ℕ) (r : Replica) → is_among odds number ≡ false → slice_get core.replicas number ≡ Some r → Meets job h.machine h.machine h.backed t (call_event h.machine.kernel t parts.call [] (serve (setup_of job.program) h.machine.kernel t parts.call)) r
  meets-at number r d e =
      let sound = h.sound number r e in
      let lives : length core.kernel.lives ≡ length h.machine.kernel.lives = ap (λ (k : Kernel). length k.lives) h.same_kernel in
      let thread = get-within r.threads t (let low = live-within h.machine.kernel.lives t live in let all = sound.all_made in omega arith) in
      meets-free r (h.others_agree going number r d e) thread.0 thread.1 sound.same_backed _

  -- the invariant after the free
  freed : TracksIdeal job odds (journal ++ Free t ∷ []) (after job core (Free t))
  freed =
      let event = has-event in
      subst (TracksIdeal job odds (journal ++ Free t ∷ [])) after-is
      (event-holds job odds journal core h going parts.no_lease t 0 live h.machine nothing_left _ event.0 event.1
      (Free t) (ap (λ (n : ℕ). replicate n t) (sym (one-step h.machine.kernel t parts.call _ unblocked))) core.replicas refl h.sound odds h.few meets-at)

-- the step of the call that is freed
pub free-runs : (job : Job) (free : RaceFree job.program) (odds : List ℕ) (journal : List Entry) (core : Core) (h : TracksIdeal job odds journal core) (t : ℕ) (parts : FreeParts job core t) → IsExecution job.program (plan_of journal ++ t ∷ [])
free-runs job free odds journal core h t parts =
    let event = has-event job free odds journal core h t parts in
    subst (λ (n : ℕ). IsExecution job.program (plan_of journal ++ replicate n t)) (one-step h.machine.kernel t parts.call _ (unblocked job free odds journal core h t parts))
    (event.0, run-more job.program (plan_of journal) h.machine h.machine [] _ h.ideal_is refl event.1.run_event)

-- the invariant after a free
pub after-free : (job : Job) (free : RaceFree job.program) (odds : List ℕ) (journal : List Entry) (core : Core) → TracksIdeal job odds journal core → (t : ℕ) → MayFree job core t → TracksIdeal job odds (journal ++ Free t ∷ []) (after job core (Free t))
after-free job free odds journal core h t may = freed job free odds journal core h t (free-parts job core t may.may)
