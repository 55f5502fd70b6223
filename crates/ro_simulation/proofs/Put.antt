-- A run of one thread in which no fault is struck: the replica that agreed with the machine still does, one thread further ahead.
use Rattle.std.specs.Prelude.{◌≡◌, ◌≢◌, ℕ, zero, suc, ◌+◌, ◌⊎◌, Bool, true, false, IsTrue, cond, ◌==◌, List, [], ◌∷◌, ◌++◌, replicate, Some, None, slice_get}
use Rattle.std.specs.Option.{option_and_then}
use Rattle.std.proofs.Common.{refl, sym, ap, ◌∙◌, subst, arith, inl, inr, append_assoc, ap₂}
use Rattle.ro_event.specs.declared.stops.Stop.{Stop}
use Rattle.ro_event.specs.declared.stops.Stop.TheVariants.{Watchdog}
use Rattle.ro_pages.specs.Bytes.{Memory, stored}
use Rattle.ro_kernel.specs.Kernel.{lives_on, ranges_in, Kernel}
use Rattle.ro_exec.specs.Next.{Next, next, stop_in, change_of}
use Rattle.ro_exec.specs.declared.Cpu.{Cpu}
use Rattle.ro_thread.specs.declared.Thread.{Thread}
use Rattle.ro_replica.specs.Replica.{Replica}
use Rattle.ro_replica.specs.Runs.{RanTo, struck, executed, run_of, with_stop, standing_in, standing_at}
use Rattle.ro_plain.specs.Machine.{Machine, opening, executed as machine_executed, steppable, step, run, BackedRun, setup_of, layout_in}
use Rattle.ro_plain.specs.Order.{RaceFree}
use Rattle.ro_plain.proofs.Calls.{some-injective}
use Rattle.ro_legal.specs.Core.{Job}
use Rattle.ro_legal.specs.Legal.{arrival, arrived}
use Rattle.ro_legal.specs.Ideal.{ahead}
use Rattle.ro_simulation.specs.Invariant.{RunsAhead, StopStands, Agrees}
use Rattle.ro_plain.proofs.StaysAfter.{Stays, stays}
use Rattle.ro_simulation.proofs.Ahead.{StepsBacked, backed-step, BackedRun-keeps, reach-run, push, KeepsRest}
use Rattle.ro_simulation.proofs.Views.{ahead-is, live-at-end}
use Rattle.ro_legal.proofs.Lists.{get-set-same, get-set-cases, ChangedFrom, unchanged, changed_here, get-changed}
use Rattle.ro_simulation.proofs.Around.{Around, around, replicate-last}
use Rattle.ro_simulation.proofs.Counts.{same-counts-ahead, counts-changed}
use Rattle.ro_legal.proofs.Sound.{Instructs, instructed, run-parts, SameButWaiting, none-struck, instructs}
use Rattle.ro_kernel.proofs.Kept.{slice_get-set_other}

-- the replica agrees with the machine, but for this thread's stop
pub record AgreesBut (job : Job) (machine : Machine) (replica : Replica) (t : ℕ) : Type 0 where
  pub runs_ahead : RunsAhead job machine replica
  pub stops : (number : ℕ) → number ≢ t → StopStands job machine replica number

-- the list of steps with one more of the thread
one-more : (front back : List ℕ) (n t : ℕ) → (front ++ replicate n t) ++ t ∷ back ≡ front ++ (replicate (n + 1) t ++ back)
one-more front back n t =
    let more : n + 1 ≡ suc n = omega arith in
    append_assoc front (replicate n t) (t ∷ back)
    ∙ ap (λ (r : List ℕ). front ++ r)
    (sym (append_assoc (replicate n t) (t ∷ []) back)
    ∙ ap (λ (r : List ℕ). r ++ back) (sym (replicate-last n t) ∙ ap (λ (k : ℕ). replicate k t) (sym more)))

module _ (job : Job) (free : RaceFree job.program) (before : List ℕ) (machine : Machine) (reached : run job.program (opening job.program) before ≡ Some machine) (going : machine.ended ≡ None) (t : ℕ) (live : IsTrue (lives_on machine.kernel t)) where
  -- faults that wait do not matter
  but-waiting : (replica other : Replica) → SameButWaiting replica other → AgreesBut job machine replica t → AgreesBut job machine other t
  but-waiting replica other same h = subst (λ (r : Replica). AgreesBut job machine r t) (sym same.is) (record {
    runs_ahead = record { end = h.runs_ahead.end; runs = h.runs_ahead.runs; same_memory = h.runs_ahead.same_memory; same_cpus = h.runs_ahead.same_cpus };
    stops = λ number d. record { stands = (h.stops number d).stands };
  })

  module _ (replica after : Replica) (h : AgreesBut job machine replica t) (i : Instructs (layout_in job.program machine.kernel) job.settings.watchdog replica t after) where
    -- what was run ahead keeps the kernel
    end_kept : KeepsRest machine h.runs_ahead.end
    end_kept = BackedRun-keeps job.program replica.backed h.runs_ahead.runs

    -- the thread may step at the end of what was run ahead
    live_end : steppable h.runs_ahead.end t ≡ Some i.thread.cpu
    live_end = live-at-end job free before machine reached going replica h.runs_ahead t i.thread live i.there

    -- its next instruction touches only backed pages
    steps_backed : StepsBacked job.program replica.backed h.runs_ahead.end t
    steps_backed = record {
      cpu = i.thread.cpu;
      instr = i.instr;
      live = live_end;
      executes = ap₂ (λ (k : Kernel) (m : Memory). next (layout_in job.program k) replica.backed m i.thread.cpu) end_kept.same_kernel (sym h.runs_ahead.same_memory) ∙ i.executes;
    }

    -- that instruction is a step of the machine
    step_end : step job.program h.runs_ahead.end t ≡ Some (machine_executed h.runs_ahead.end t i.thread.cpu i.instr)
    step_end = backed-step job.program replica.backed h.runs_ahead.end t (record {
      cpu = i.thread.cpu;
      instr = i.instr;
      live = live_end;
      executes = ap₂ (λ (k : Kernel) (m : Memory). next (layout_in job.program k) replica.backed m i.thread.cpu) end_kept.same_kernel (sym h.runs_ahead.same_memory) ∙ i.executes;
    })

    -- the end of what was run ahead is reached
    reached_end : run job.program (opening job.program) (before ++ ahead replica) ≡ Some h.runs_ahead.end
    reached_end = reach-run job.program replica.backed before reached h.runs_ahead.runs

    -- the thread's steps among the others
    among : Around 0 replica.threads t t
    among = around 0 replica.threads t t i.thread i.there (omega arith)

    -- the run with one more step
    runs_end : BackedRun job.program replica.backed machine (ahead (executed t replica i.thread i.instr)) (machine_executed h.runs_ahead.end t i.thread.cpu i.instr)
    runs_end = subst (λ (xs : List ℕ). BackedRun job.program replica.backed machine xs (machine_executed h.runs_ahead.end t i.thread.cpu i.instr))
        (one-more among.front among.back i.thread.since t ∙ sym (among.with_set (instructed replica i.thread i.instr)))
        (push job.program free replica.backed before t (among.front ++ replicate i.thread.since t) among.back machine h.runs_ahead.end _ reached among.back_without
        (subst (λ (xs : List ℕ). BackedRun job.program replica.backed machine xs h.runs_ahead.end) (ahead-is replica t i.thread i.there among ∙ sym (append_assoc among.front (replicate i.thread.since t) among.back)) h.runs_ahead.runs)
        steps_backed step_end)

    -- registers after the instruction
    cpus_end : (number : ℕ) (other : Thread) → IsTrue (lives_on machine.kernel number) → ((number ≢ t) × (slice_get replica.threads number ≡ Some other)) ⊎ ((number ≡ t) × (instructed replica i.thread i.instr ≡ other)) → slice_get (machine_executed h.runs_ahead.end t i.thread.cpu i.instr).cpus number ≡ Some other.cpu
    cpus_end number other alive (inl e) = slice_get-set_other h.runs_ahead.end.cpus t number _ (λ f. e.0 (sym f)) ∙ h.runs_ahead.same_cpus number other alive e.1
    cpus_end number other alive (inr e) =
        ap (slice_get (machine_executed h.runs_ahead.end t i.thread.cpu i.instr).cpus) e.0
        ∙ (get-set-same h.runs_ahead.end.cpus t i.thread.cpu _ (h.runs_ahead.same_cpus t i.thread live i.there)
        ∙ (ap (λ (m : Memory). Some (change_of m i.thread.cpu i.instr).cpu) (sym h.runs_ahead.same_memory) ∙ ap (λ (x : Thread). Some x.cpu) e.1))

    -- memory after the instruction
    memory_end : (executed t replica i.thread i.instr).memory ≡ (machine_executed h.runs_ahead.end t i.thread.cpu i.instr).memory
    memory_end = ap (λ (m : Memory). stored m (change_of m i.thread.cpu i.instr).place (change_of m i.thread.cpu i.instr).bytes) h.runs_ahead.same_memory

    -- what another thread does next stays
    other-stays : (number : ℕ) → number ≢ t → (other : Thread) → IsTrue (lives_on machine.kernel number) → slice_get replica.threads number ≡ Some other → Stays job.program h.runs_ahead.end (machine_executed h.runs_ahead.end t i.thread.cpu i.instr) number other.cpu
    other-stays number d other alive there =
        stays job.program free (before ++ ahead replica) h.runs_ahead.end reached_end t number (λ e. d (sym e)) _ step_end ((BackedRun-keeps job.program replica.backed h.runs_ahead.runs).same_end ∙ going) other.cpu
        (live-at-end job free before machine reached going replica h.runs_ahead number other alive there)

    -- nor does it change what addresses mean
    layout_kept : (m : Memory) (cpu : Cpu) → next (layout_in job.program machine.kernel) replica.backed m cpu ≡ next (layout_in job.program h.runs_ahead.end.kernel) replica.backed m cpu
    layout_kept m cpu = ap (λ (k : Kernel). next (layout_in job.program k) replica.backed m cpu) (sym end_kept.same_kernel)

    -- stops of other threads after the instruction
    stop_end : (number : ℕ) → number ≢ t → StopStands job machine (executed t replica i.thread i.instr) number
    stop_end number d = record {
      stands = λ other stop alive there stopped.
          let old : slice_get replica.threads number ≡ Some other = sym (slice_get-set_other replica.threads t number _ (λ e. d (sym e))) ∙ there in
          let same = (other-stays number d other alive old).next_stays replica.backed in
          ap (λ (m : Memory). standing_in (layout_in job.program machine.kernel) job.settings.watchdog (record replica { memory = m }) other) memory_end
          ∙ (ap (λ (n : Next). cond (other.since == job.settings.watchdog) (Some Watchdog) (stop_in n)) (layout_kept (machine_executed h.runs_ahead.end t i.thread.cpu i.instr).memory other.cpu ∙ (sym same ∙ sym (layout_kept h.runs_ahead.end.memory other.cpu)))
          ∙ (ap (λ (m : Memory). standing_in (layout_in job.program machine.kernel) job.settings.watchdog (record replica { memory = m }) other) (sym h.runs_ahead.same_memory)
          ∙ (h.stops number d).stands other stop alive old stopped));
    }

    -- one instruction
    but-executed : AgreesBut job machine after t
    but-executed = subst (λ (r : Replica). AgreesBut job machine r t) (sym i.is) (record {
      runs_ahead = record {
        end = machine_executed h.runs_ahead.end t i.thread.cpu i.instr;
        runs = runs_end;
        same_memory = memory_end;
        same_cpus = λ number other alive e. cpus_end number other alive (get-set-cases replica.threads t number (instructed replica i.thread i.instr) other e);
      };
      stops = stop_end;
    })

  -- no fault in all is none in each part
  no-hit : (m n : ℕ) → m + n ≡ 0 → (m ≡ 0) × (n ≡ 0)
  no-hit m n e = (omega arith, omega arith)

  -- any number of them
  pub but-ran : (n : ℕ) (replica : Replica) (ran : RanTo) → run_of (layout_in job.program machine.kernel) job.settings.watchdog n replica t ≡ Some ran → ran.hit ≡ 0 → AgreesBut job machine replica t → AgreesBut job machine ran.replica t
  but-ran zero replica ran e none h =
      let same : struck (ranges_in (setup_of job.program) machine.kernel) replica t ≡ ran = some-injective e in
      subst (λ (x : RanTo). AgreesBut job machine x.replica t) same
      (but-waiting replica _ (none-struck (ranges_in (setup_of job.program) machine.kernel) t replica (ap (λ (x : RanTo). x.hit) same ∙ none)) h)
  but-ran (suc n) replica ran e none h =
      let parts = run-parts (layout_in job.program machine.kernel) job.settings.watchdog n replica t ran e in
      let zeros = no-hit (struck (ranges_in (setup_of job.program) machine.kernel) replica t).hit parts.rest.hit (ap (λ (x : RanTo). x.hit) parts.sum ∙ none) in
      let first = but-waiting replica _ (none-struck (ranges_in (setup_of job.program) machine.kernel) t replica zeros.0) h in
      let here = but-executed (struck (ranges_in (setup_of job.program) machine.kernel) replica t).replica parts.after first (instructs (layout_in job.program machine.kernel) job.settings.watchdog _ t parts.after parts.executes) in
      subst (λ (x : RanTo). AgreesBut job machine x.replica t) parts.sum (let rest = but-ran n parts.after parts.rest parts.runs zeros.1 here in record { runs_ahead = rest.runs_ahead; stops = rest.stops })

  -- ---- the stop at which the thread arrives

  module _ (count : ℕ) (replica : Replica) (h : AgreesBut job machine replica t) where
    -- a stop changes nothing of what was run ahead
    same_ahead : ahead (arrived job machine.kernel t count replica) ≡ ahead replica
    same_ahead = same-counts-ahead _ _ (counts-changed (with_stop (arrival job machine.kernel t count replica)) (λ x. refl) replica.threads t)

    -- registers after the arrival
    cpus_arrived : (number : ℕ) (other : Thread) → IsTrue (lives_on machine.kernel number) → ChangedFrom (with_stop (arrival job machine.kernel t count replica)) replica.threads t number other → slice_get h.runs_ahead.end.cpus number ≡ Some other.cpu
    cpus_arrived number other alive (unchanged d e) = h.runs_ahead.same_cpus number other alive e
    cpus_arrived number other alive (changed_here x d e g) = h.runs_ahead.same_cpus number x alive e ∙ ap (λ (y : Thread). Some y.cpu) g

    -- the stop of an arrival stands
    stands-there : (b : Bool) (x : Thread) (stop : Stop) → slice_get replica.threads t ≡ Some x → cond b None (standing_at (layout_in job.program machine.kernel) job.settings.watchdog replica t) ≡ Some stop → standing_in (layout_in job.program machine.kernel) job.settings.watchdog replica x ≡ Some stop
    stands-there true x stop there e = absurd (let f : None ≡ Some stop = e in cc)
    stands-there false x stop there e = sym (ap (option_and_then (standing_in (layout_in job.program machine.kernel) job.settings.watchdog replica)) there) ∙ e

    -- stops after the arrival
    stop_arrived : (number : ℕ) (other : Thread) (stop : Stop) → IsTrue (lives_on machine.kernel number) → other.stop ≡ Some stop → ChangedFrom (with_stop (arrival job machine.kernel t count replica)) replica.threads t number other → standing_in (layout_in job.program machine.kernel) job.settings.watchdog (arrived job machine.kernel t count replica) other ≡ Some stop
    stop_arrived number other stop alive stopped (unchanged d e) = (h.stops number d).stands other stop alive e stopped
    stop_arrived number other stop alive stopped (changed_here x d e g) =
        ap (λ (y : Thread). standing_in (layout_in job.program machine.kernel) job.settings.watchdog replica y) (sym g)
        ∙ stands-there (count == job.settings.quantum) x stop (ap (slice_get replica.threads) (sym d) ∙ e) (ap (λ (y : Thread). y.stop) g ∙ stopped)

    -- the replica agrees after the arrival
    pub agrees-arrived : Agrees job machine (arrived job machine.kernel t count replica)
    agrees-arrived = record {
      runs_ahead = record {
        end = h.runs_ahead.end;
        runs = subst (λ (xs : List ℕ). BackedRun job.program replica.backed machine xs h.runs_ahead.end) (sym same_ahead) h.runs_ahead.runs;
        same_memory = h.runs_ahead.same_memory;
        same_cpus = λ number other alive e. cpus_arrived number other alive (get-changed _ replica.threads t number other e);
      };
      stops = λ number. record { stands = λ other stop alive e stopped. stop_arrived number other stop alive stopped (get-changed _ replica.threads t number other e) };
    }
