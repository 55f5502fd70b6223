-- The event that a thread's stop comes to, and the step of the machine that it stands for.
use Rattle.std.specs.Prelude.{◌≡◌, ◌≢◌, ℕ, ◌+◌, Bool, true, false, IsTrue, List, [], ◌++◌, replicate, length, Option, Some, None, slice_get}
use Rattle.std.specs.Option.{option_and_then}
use Rattle.std.proofs.Common.{refl, sym, ap, ◌∙◌, subst, arith, append-nil, length-append}
use Rattle.std.proofs.lemmas.List.{length-set}
use Rattle.ro_event.specs.declared.calls.Which.{Which}
use Rattle.ro_event.specs.declared.calls.Which.TheVariants.{System}
use Rattle.ro_event.specs.declared.calls.Call.{Call}
use Rattle.ro_event.specs.declared.effects.Made.{Made}
use Rattle.ro_event.specs.declared.stops.Stop.{Stop}
use Rattle.ro_event.specs.declared.stops.Stop.TheVariants.{Calls, Trap, PageFault, Watchdog}
use Rattle.ro_event.specs.declared.traps.TrapCause.{TrapCause}
use Rattle.ro_event.specs.Effects.{Effect}
use Rattle.ro_journal.specs.declared.Did.{Did}
use Rattle.ro_journal.specs.declared.Did.TheVariants.{Blocked as WasBlocked, PageBacked, Watch, Trapped}
use Rattle.ro_journal.specs.declared.How.{How}
use Rattle.ro_journal.specs.declared.How.TheVariants.{Trap as TrapHow}
use Rattle.ro_journal.specs.Plan.{event_steps}
use Rattle.ro_condition.proofs.Whose.{is_waiting}
use Rattle.ro_kernel.specs.declared.Life.{Life}
use Rattle.ro_kernel.specs.Kernel.{Setup, Kernel, live_option, lives_on, ranges_in}
use Rattle.ro_kernel.specs.Serve.{Served, Done, Parked, Blocked, Ends, serve, is_write, is_atomic, put_out, asked}
use Rattle.ro_kernel.proofs.Kept.{Own, done, parked, blocked, ends, serve-own, IsServed, system-served}
use Rattle.ro_kernel.proofs.Waiting.{served-others, begun-others, begun-now, blocked-waits, parked-waits}
use Rattle.ro_kernel.proofs.Given.{given-parked}
use Rattle.ro_kernel.proofs.Words.{blocked-plain}
use Rattle.ro_exec.specs.declared.Cpu.{Cpu}
use Rattle.ro_exec.specs.Next.{Backed, all_backed, Stands, Layout, next}
use Rattle.ro_exec.proofs.Backing.{IsNoFault, a_call, a_trap}
use Rattle.ro_thread.specs.declared.Thread.{Thread}
use Rattle.ro_thread.specs.Stops.{standing}
use Rattle.ro_replica.specs.Replica.{Replica, applied, cancelled}
use Rattle.ro_plain.specs.Machine.{setup_of, served_in, Machine, opening, with_made, affected, called, step_by, next_of, steppable, step, run, BackedRun, layout_in, payload_in}
use Rattle.ro_plain.specs.Order.{RaceFree}
use Rattle.ro_plain.proofs.Stays.{no-payload}
use Rattle.ro_plain.proofs.Calls.{some-injective, step-at, steppable-parts, steppable-from}
use Rattle.ro_legal.specs.Core.{Job}
use Rattle.ro_replica.specs.Views.{payload_at}
use Rattle.ro_legal.specs.Event.{Event, quiet_effect, call_event, event_of}
use Rattle.ro_legal.specs.Sound.{IsOver, traps}
use Rattle.ro_simulation.specs.Invariant.{StopStands, Agrees, StandsAtCall}
use Rattle.ro_plain.proofs.StaysAfter.{Stays, stays}
use Rattle.ro_plain.proofs.Wider.{layout-same}
use Rattle.ro_simulation.proofs.Ahead.{KeepsRest, BackedRun-keeps, reach-run, stays-along}
use Rattle.ro_simulation.proofs.Around.{Without-replicate}
use Rattle.ro_legal.proofs.Served.{made_count, Tidy, tidy_done, tidy_parked, tidy_blocked, tidy_end, serve-tidy}
use Rattle.ro_simulation.proofs.Views.{Comes}
use Rattle.ro_simulation.proofs.Events.{agrees-quiet, agrees-parked, agrees-served}

-- what blocks is not served
never-blocked : IsServed Blocked → ⊥
never-blocked h = elim h [ ]

-- a call that blocks is no write
blocked-no-write : (setup : Setup) (kernel : Kernel) (t : ℕ) (call : Call) → serve setup kernel t call ≡ Blocked → is_write call.which ≡ false
blocked-no-write setup kernel t call e = by call.which refl
  where
    by : (w : Which) → call.which ≡ w → is_write call.which ≡ false
    by (System number) f = absurd (never-blocked (subst IsServed e (system-served setup kernel t call number f)))
    by other f = ap is_write f

-- The event, and the machine after it: a replica that agrees agrees with that machine.
pub record EventStep (job : Job) (backed : Backed) (machine middle : Machine) (t : ℕ) (event : Event) (after : Machine) : Type 0 where
  pub run_event : run job.program middle (replicate (event_steps event.did) t) ≡ Some after
  pub same_kernel : event.kernel ≡ after.kernel
  pub same_output : middle.output ++ event.payload ≡ after.output
  pub same_end : event.due ≡ after.ended
  pub ends_well : (how : How) → after.ended ≡ Some how → IsOver how
  pub as_many : length after.cpus ≡ length after.kernel.lives
  pub one_life_each : length after.kernel.lives ≡ length machine.kernel.lives + made_count event.effect.made
  pub own_blocked : (call : Call) → event.blocked ≡ Some call → StandsAtCall job.program after t call
  pub others_stand : (u : ℕ) (call : Call) → u ≢ t → StandsAtCall job.program machine u call → after.ended ≡ None → StandsAtCall job.program after u call
  pub agrees : after.ended ≡ None → (replica : Replica) (thread : Thread) → replica.backed ≡ backed → slice_get replica.threads t ≡ Some thread → length replica.threads ≡ length machine.kernel.lives → Comes job backed machine middle replica t thread → ((number : ℕ) → StopStands job machine replica number)
      → ((stop : Stop) → event.effect.releases ≡ false → thread.stop ≡ Some stop → standing (layout_in job.program machine.kernel) job.settings.watchdog replica.backed replica.memory thread.cpu 0 ≡ Some stop)
      → Agrees job after (cancelled (applied event.effect replica))

-- its machine is there
abbrev pub HasEvent : Job → Backed → Machine → Machine → ℕ → Event → Type 0
HasEvent job backed machine middle t event = (after : Machine) × EventStep job backed machine middle t event after

-- one thread more or none
length-made : (made : Option Made) (cpu : Cpu) (cpus : List Cpu) → length (with_made made cpu cpus) ≡ length cpus + made_count made
length-made None cpu cpus = omega arith
length-made (Some made) cpu cpus = length-append cpus _

module _ (job : Job) (free : RaceFree job.program) (before : List ℕ) (backed : Backed) (machine middle : Machine) (reached : run job.program (opening job.program) before ≡ Some machine) (going : machine.ended ≡ None) (t count : ℕ) (live : IsTrue (lives_on machine.kernel t)) (own : BackedRun job.program backed machine (replicate count t) middle) (cpu : Cpu) (live_middle : steppable middle t ≡ Some cpu) (as_many : length machine.cpus ≡ length machine.kernel.lives) where
  -- the thread's own steps keep the kernel
  kept : KeepsRest machine middle
  kept = BackedRun-keeps job.program backed own

  -- the program goes on in the middle
  going_middle : middle.ended ≡ None
  going_middle = kept.same_end ∙ going

  -- the middle machine is reached
  reached_middle : run job.program (opening job.program) (before ++ replicate count t) ≡ Some middle
  reached_middle = reach-run job.program backed before reached own

  -- the lives in the middle
  lives_middle : length middle.kernel.lives ≡ length machine.kernel.lives
  lives_middle = ap (λ (k : Kernel). length k.lives) kept.same_kernel

  -- one life for each thread in the middle
  as_many_middle : length middle.cpus ≡ length middle.kernel.lives
  as_many_middle = kept.same_length ∙ (as_many ∙ sym lives_middle)

  -- the middle machine has not ended
  over-middle : (how : How) → middle.ended ≡ Some how → IsOver how
  over-middle how e = absurd (let f : None ≡ Some how = sym going_middle ∙ e in cc)

  -- another thread's call after the thread's own steps
  stands-middle : (u : ℕ) (call : Call) → u ≢ t → StandsAtCall job.program machine u call → StandsAtCall job.program middle u call
  stands-middle u call d h =
      let along : Stays job.program machine middle u h.cpu = stays-along job.program free backed before u h.cpu reached own (Without-replicate u count t (λ e. d (sym e))) h.live in
      record { cpu = h.cpu; live = along.live; stands = sym (along.next_stays all_backed) ∙ h.stands; writes_nothing = h.writes_nothing; plain = h.plain; begun = λ w. ap (λ (k : Kernel). is_waiting k.waiters u) kept.same_kernel ∙ h.begun w }

  -- and after its event
  stands-after : (after : Machine) → step job.program middle t ≡ Some after → after.ended ≡ None → ((u : ℕ) → u ≢ t → is_waiting after.kernel.waiters u ≡ is_waiting middle.kernel.waiters u) → (u : ℕ) (call : Call) → u ≢ t → StandsAtCall job.program machine u call → StandsAtCall job.program after u call
  stands-after after e on waiting u call d h =
      let m = stands-middle u call d h in
      let along : Stays job.program middle after u m.cpu = stays job.program free (before ++ replicate count t) middle reached_middle t u (λ f. d (sym f)) after e on m.cpu m.live in
      record { cpu = m.cpu; live = along.live; stands = sym (along.next_stays all_backed) ∙ m.stands; writes_nothing = m.writes_nothing; plain = m.plain; begun = λ w. waiting u d ∙ m.begun w }

  -- an event without a step
  quiet-step : (did : Did) (page : Option ℕ) (releases : Bool) (event : Event) → event_steps did ≡ 0 → event ≡ record { did = did; kernel = middle.kernel; effect = quiet_effect t page releases; payload = []; blocked = event.blocked; due = None } → ((call : Call) → event.blocked ≡ Some call → StandsAtCall job.program middle t call) → EventStep job backed machine middle t event middle
  quiet-step did page releases event none is stays_blocked = record {
    run_event = ap (λ (n : ℕ). run job.program middle (replicate n t)) (ap (λ (e : Event). event_steps e.did) is ∙ none);
    same_kernel = ap (λ (e : Event). e.kernel) is;
    same_output = ap (λ (e : Event). middle.output ++ e.payload) is ∙ append-nil middle.output;
    same_end = ap (λ (e : Event). e.due) is ∙ sym going_middle;
    ends_well = over-middle;
    as_many = as_many_middle;
    one_life_each = lives_middle ∙ (zero-more ∙ ap (λ (e : Event). length machine.kernel.lives + made_count e.effect.made) (sym is));
    own_blocked = stays_blocked;
    others_stand = λ u call d h on. stands-middle u call d h;
    agrees = λ on replica thread same there all_made comes stops own_stop.
        subst (λ (e : Effect). Agrees job middle (cancelled (applied e replica))) (ap (λ (e : Event). e.effect) (sym is))
        (agrees-quiet job free before backed machine middle reached going replica same t live thread there comes stops page releases (λ stop r s. own_stop stop (ap (λ (e : Event). e.effect.releases) is ∙ r) s));
  }
    where
      zero-more : length machine.kernel.lives ≡ length machine.kernel.lives + 0
      zero-more = omega arith

  -- ---- a call

  module _ (call : Call) (stands : next_of job.program middle cpu ≡ Stands (Calls call)) (payload : List ℕ) (payload_is : payload ≡ payload_in job.program middle call) where
    -- what comes of it in the machine
    served-so : (served : Served) → serve (setup_of job.program) middle.kernel t (asked call payload) ≡ served → served_in job.program middle t call ≡ served
    served-so served e = ap (λ (p : List ℕ). serve (setup_of job.program) middle.kernel t (asked call p)) (sym payload_is) ∙ e

    -- a call's step
    step-called : (served : Served) (after : Machine) → serve (setup_of job.program) middle.kernel t (asked call payload) ≡ served → called middle cpu (put_out call.which (payload_in job.program middle call)) served ≡ Some after → step job.program middle t ≡ Some after
    step-called served after e f = step-at job.program middle t cpu live_middle
        ∙ (ap (step_by job.program middle t cpu) stands
        ∙ (ap (called middle cpu (put_out call.which (payload_in job.program middle call))) (served-so served e) ∙ f))

    -- the event of a call, by what comes of it
    call-step : (served : Served) → serve (setup_of job.program) middle.kernel t (asked call payload) ≡ served → Own middle.kernel t served → Tidy middle.kernel t served → HasEvent job backed machine middle t (call_event middle.kernel t call (put_out call.which payload) served)
    call-step (Done kernel effect) e (done own_effect) (tidy_done tidy) = (
      affected middle cpu kernel effect (put_out call.which (payload_in job.program middle call)),
      record {
        run_event = ap (option_and_then (λ m. run job.program m [])) (step-called (Done kernel effect) _ e refl);
        same_kernel = refl;
        same_output = ap (λ (p : List ℕ). middle.output ++ put_out call.which p) payload_is;
        same_end = sym going_middle;
        ends_well = over-middle;
        as_many = length-made effect.made cpu _ ∙ (ap (λ (n : ℕ). n + made_count effect.made) (length-set middle.cpus effect.thread _ ∙ as_many_middle) ∙ sym tidy.one_life_each);
        one_life_each = tidy.one_life_each ∙ ap (λ (n : ℕ). n + made_count effect.made) lives_middle;
        own_blocked = λ other (f : None ≡ Some other). absurd cc;
        others_stand = λ u other d h on. stands-after _ (step-called (Done kernel effect) _ e refl) going_middle (served-others (setup_of job.program) middle.kernel t (asked call payload) kernel effect e) u other d h;
        agrees = λ on replica thread same there all_made comes stops own_stop.
            let same_cpu : thread.cpu ≡ cpu = some-injective (sym comes.live ∙ live_middle) in
            subst (λ (c : Cpu). Agrees job (affected middle c kernel effect (put_out call.which (payload_in job.program middle call))) (cancelled (applied effect replica))) same_cpu
            (agrees-served job free before backed machine middle reached going replica same t live thread there comes stops call kernel effect (ap (next_of job.program middle) same_cpu ∙ stands) (served-so (Done kernel effect) e) own_effect tidy all_made as_many);
      },
    )
    call-step (Parked kernel) e (parked same) tidy_parked = (
      record middle { kernel = kernel },
      record {
        run_event = ap (option_and_then (λ m. run job.program m [])) (step-called (Parked kernel) _ e refl);
        same_kernel = refl;
        same_output = append-nil middle.output;
        same_end = sym going_middle;
        ends_well = over-middle;
        as_many = as_many_middle ∙ sym (ap length same);
        one_life_each = ap length same ∙ (lives_middle ∙ no-more (length machine.kernel.lives));
        own_blocked = λ other (f : Some call ≡ Some other). subst (λ (c : Call). StandsAtCall job.program (record middle { kernel = kernel }) t c) (some-injective f) (record {
          cpu = cpu;
          live = steppable-from (record middle { kernel = kernel }) t cpu (let parts = steppable-parts middle t cpu live_middle in record {
            going = parts.going;
            live = ap (λ (l : List Life). live_option (slice_get l t)) same ∙ parts.live;
            there = parts.there;
          });
          stands = ap (λ (l : Layout). next l all_backed middle.memory cpu) (layout-same job.program kernel middle.kernel (given-parked (setup_of job.program) middle.kernel t (asked call payload) kernel e)) ∙ stands;
          writes_nothing = λ ranges m. no-payload ranges m call (ap is_write (parked-waits (setup_of job.program) middle.kernel t (asked call payload) kernel e)) (ap is_atomic (parked-waits (setup_of job.program) middle.kernel t (asked call payload) kernel e));
          plain = ap is_atomic (parked-waits (setup_of job.program) middle.kernel t (asked call payload) kernel e);
          begun = λ w. begun-now (setup_of job.program) middle.kernel t (asked call payload) kernel e;
        });
        others_stand = λ u other d h on. stands-after _ (step-called (Parked kernel) _ e refl) going_middle (begun-others (setup_of job.program) middle.kernel t (asked call payload) kernel e) u other d h;
        agrees = λ on replica thread same_pages there all_made comes stops own_stop.
            let same_cpu : thread.cpu ≡ cpu = some-injective (sym comes.live ∙ live_middle) in
            agrees-parked job free before backed machine middle reached going replica same_pages t live thread there comes stops call kernel (ap (next_of job.program middle) same_cpu ∙ stands) (served-so (Parked kernel) e) (given-parked (setup_of job.program) middle.kernel t (asked call payload) kernel e) same own_stop;
      },
    )
      where
        no-more : (n : ℕ) → n ≡ n + 0
        no-more n = omega arith
    call-step Blocked e blocked tidy_blocked = (
      middle,
      quiet-step WasBlocked None false _ refl refl (λ other (f : Some call ≡ Some other).
          subst (λ (c : Call). StandsAtCall job.program middle t c) (some-injective f)
          (record { cpu = cpu; live = live_middle; stands = stands; writes_nothing = λ ranges m. no-payload ranges m call (blocked-no-write (setup_of job.program) middle.kernel t (asked call payload) e) (blocked-plain (setup_of job.program) middle.kernel t (asked call payload) e); plain = blocked-plain (setup_of job.program) middle.kernel t (asked call payload) e; begun = λ w. blocked-waits (setup_of job.program) middle.kernel t (asked call payload) e w })),
    )
    call-step (Ends kernel how) e ends (tidy_end same over) = (
      record middle { kernel = kernel; ended = Some how },
      record {
        run_event = ap (option_and_then (λ m. run job.program m [])) (step-called (Ends kernel how) _ e refl);
        same_kernel = refl;
        same_output = append-nil middle.output;
        same_end = refl;
        ends_well = λ other f. subst IsOver (some-injective f) over;
        as_many = as_many_middle ∙ sym same;
        one_life_each = same ∙ (lives_middle ∙ zero-more (length machine.kernel.lives));
        own_blocked = λ other (f : None ≡ Some other). absurd cc;
        others_stand = λ u other d h (on : Some how ≡ None). absurd cc;
        agrees = λ (on : Some how ≡ None). absurd cc;
      },
    )
      where
        zero-more : (n : ℕ) → n ≡ n + 0
        zero-more n = omega arith

    -- the event of a call
    pub step-of-call : HasEvent job backed machine middle t (call_event middle.kernel t call (put_out call.which payload) (serve (setup_of job.program) middle.kernel t (asked call payload)))
    step-of-call = call-step _ refl (serve-own (setup_of job.program) middle.kernel t (asked call payload)) (serve-tidy (setup_of job.program) middle.kernel t (asked call payload))

  -- the event of a trap
  trap-step : (code : TrapCause) → next_of job.program middle cpu ≡ Stands (Trap code) → HasEvent job backed machine middle t (record { did = Trapped; kernel = middle.kernel; effect = quiet_effect t None false; payload = []; blocked = None; due = Some (TrapHow code) })
  trap-step code stands = (
    record middle { ended = Some (TrapHow code) },
    record {
      run_event = ap (option_and_then (λ m. run job.program m [])) (step-at job.program middle t cpu live_middle ∙ ap (step_by job.program middle t cpu) stands);
      same_kernel = refl;
      same_output = append-nil middle.output;
      same_end = refl;
      ends_well = λ other f. subst IsOver (some-injective f) traps;
      as_many = as_many_middle;
      one_life_each = lives_middle ∙ zero-more (length machine.kernel.lives);
      own_blocked = λ other (f : None ≡ Some other). absurd cc;
      others_stand = λ u other d h (on : Some (TrapHow code) ≡ None). absurd cc;
      agrees = λ (on : Some (TrapHow code) ≡ None). absurd cc;
    },
  )
    where
      zero-more : (n : ℕ) → n ≡ n + 0
      zero-more n = omega arith

  -- the event of a stop that stands at the thread after its own steps
  pub step-of-stop : (stop : Stop) → (IsNoFault stop → next_of job.program middle cpu ≡ Stands stop) → HasEvent job backed machine middle t (event_of (setup_of job.program) middle.kernel t stop (payload_at (ranges_in (setup_of job.program) middle.kernel) middle.memory stop))
  unfolding event_of
  step-of-stop (Calls call) h = step-of-call call (h a_call) _ refl
  step-of-stop (Trap code) h = trap-step code (h a_trap)
  step-of-stop (PageFault page) h = (middle, quiet-step PageBacked (Some page) true _ refl refl (λ call (f : None ≡ Some call). absurd cc))
  step-of-stop Watchdog h = (middle, quiet-step Watch None true _ refl refl (λ call (f : None ≡ Some call). absurd cc))
