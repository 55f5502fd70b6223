-- What comes of a plan.
use Rattle.std.proofs.Common.{◌≡◌, ℕ, List, [], ◌∷◌, Option, Some, None, refl, sym, ap, ◌∙◌, subst}
use Rattle.std.specs.Option.{option_and_then}
use Rattle.ro_event.specs.declared.stops.Stop.TheVariants.{Calls, Trap as AtTrap, PageFault, Watchdog}
use Rattle.ro_exec.specs.declared.Cpu.{Cpu}
use Rattle.ro_exec.specs.Next.{Next, Stands, Executes}
use Rattle.ro_journal.specs.declared.How.{How}
use Rattle.ro_journal.specs.declared.How.TheVariants.{Exit as ByExit, Deadlock as ByDeadlock, Trap as ByTrap, Limit as ByLimit, Differ as ByDiffer, NoMajority as ByNoMajority, Sink as BySink}
use Rattle.ro_journal.specs.declared.Entry.{Entry}
use Rattle.ro_settings.specs.declared.Mode.{Mode}
use Rattle.ro_plans.specs.Plans.{plan_in}
use Rattle.ro_kernel.specs.Serve.{Served, Done, Parked, Blocked, Ends, put_out, asked}
use Rattle.ro_kernel.specs.Kernel.{Kernel}
use Rattle.ro_plain.specs.Machine.{Program, Machine, affected, executed, opening, called, setup_of, step_by, next_of, steppable, step, run, payload_in, served_in}
use Rattle.ro_legal.specs.Sound.{IsOver, traps}
use Rattle.ro_legal.proofs.Served.{Tidy, tidy_end, serve-tidy}
use Rattle.ro_simulation.specs.Theorem.{IsComplete, by_exit, by_trap, by_deadlock}
use Rattle.ro_machine.specs.Plans.{RunsPlan, EndsAs}
use Rattle.ro_report.specs.declared.answers.Answer.{Answer}
use Rattle.ro_report.specs.declared.answers.Answer.TheVariants.{Exit, Deadlock, Trap, Unended, Differ, NoMajority, Limit, SinkFailed, StoreFailed, BadExe, BadFaults, BadPlan, Other, NoStep, NoRace, Race, BadWords, TooLong, NoMemory}
use Rattle.ro_top.specs.Ends.{CamePlain, RanWhole, PlanCause, IsOutcome, AnswersEnd}

-- ---- a machine that was run ends by an exit or a trap, if it ends

abbrev EndsWell : Option How → Type 0
EndsWell ended = (how : How) → ended ≡ Some how → IsOver how

end-over : (before : Kernel) (thread : ℕ) (after : Kernel) (how : How) → Tidy before thread (Ends after how) → IsOver how
end-over before thread after how (tidy_end same over) = over

ended_by : (other after : Machine) → ◌≡◌ {A = Option Machine} (Some other) (Some after) → other.ended ≡ after.ended
ended_by other after e = ap (λ (o : Option Machine). option_and_then (λ (m : Machine). m.ended) o) e

module _ (program : Program) (machine after : Machine) (thread : ℕ) (well : EndsWell machine.ended) where
  -- a call that was served
  by_called : (cpu : Cpu) (payload : List ℕ) (served : Served) → Tidy machine.kernel thread served → called machine cpu payload served ≡ Some after → EndsWell after.ended
  by_called cpu payload (Done kernel effect) tidy e = λ other is.
      let ended : machine.ended ≡ after.ended = ended_by (affected machine cpu kernel effect payload) after e in
      well other (ended ∙ is)
  by_called cpu payload (Parked kernel) tidy e = λ other is.
      let ended : machine.ended ≡ after.ended = ended_by (record machine { kernel = kernel }) after e in
      well other (ended ∙ is)
  by_called cpu payload Blocked tidy e = absurd (let f : None ≡ Some after = e in cc)
  by_called cpu payload (Ends kernel how) tidy e = λ other is.
      let over = end-over machine.kernel thread kernel how tidy in
      let ended : Some how ≡ after.ended = ended_by (record machine { kernel = kernel; ended = Some how }) after e in
      subst IsOver (let f : Some how ≡ Some other = ended ∙ is in cc) over

  by_next : (cpu : Cpu) (next : Next) → step_by program machine thread cpu next ≡ Some after → EndsWell after.ended
  by_next cpu (Executes instr) e = λ other is.
      let ended : machine.ended ≡ after.ended = ended_by (executed machine thread cpu instr) after e in
      well other (ended ∙ is)
  by_next cpu (Stands (Calls call)) e =
      by_called cpu (put_out call.which (payload_in program machine call)) (served_in program machine thread call)
      (serve-tidy (setup_of program) machine.kernel thread (asked call (payload_in program machine call))) e
  by_next cpu (Stands (AtTrap code)) e = λ other is.
      let ended : Some (ByTrap code) ≡ after.ended = ended_by (record machine { ended = Some (ByTrap code) }) after e in
      subst IsOver (let f : Some (ByTrap code) ≡ Some other = ended ∙ is in cc) (traps {cause = code})
  by_next cpu (Stands (PageFault page)) e = absurd (let f : None ≡ Some after = e in cc)
  by_next cpu (Stands Watchdog) e = absurd (let f : None ≡ Some after = e in cc)

  by_cpu : (o : Option Cpu) → option_and_then (λ cpu. step_by program machine thread cpu (next_of program machine cpu)) o ≡ Some after → EndsWell after.ended
  by_cpu None e = absurd (let f : None ≡ Some after = e in cc)
  by_cpu (Some cpu) e = by_next cpu (next_of program machine cpu) e

  step_well : step program machine thread ≡ Some after → EndsWell after.ended
  unfolding step
  step_well e = by_cpu (steppable machine thread) e

run_well : (program : Program) (machine last : Machine) (threads : List ℕ) → EndsWell machine.ended → run program machine threads ≡ Some last → EndsWell last.ended
run_well program machine last [] well e = λ how is. well how (ended_by machine last e ∙ is)
run_well program machine last (thread ∷ threads) well e =
    by (λ after g. run_well program after last threads g) (step program machine thread) refl e
  where
    by : ((after : Machine) → EndsWell after.ended → run program after threads ≡ Some last → EndsWell last.ended) → (o : Option Machine) → step program machine thread ≡ o
        → option_and_then (λ after. run program after threads) o ≡ Some last → EndsWell last.ended
    by later None f g = absurd (let h : None ≡ Some last = g in cc)
    by later (Some after) f g = later after (step_well program machine after thread well f) g

opens_well : (program : Program) → EndsWell (opening program).ended
unfolding opening
opens_well program how e = absurd (let f : None ≡ Some how = e in cc)

over_complete : (how : How) → IsOver how → IsComplete how
over_complete (ByExit status) h = by_exit
over_complete (ByTrap code) h = by_trap
over_complete ByDeadlock h = by_deadlock
over_complete (ByLimit steps next) h = elim h [ ]
over_complete ByDiffer h = elim h [ ]
over_complete ByNoMajority h = elim h [ ]
over_complete (BySink taken) h = elim h [ ]

-- a plan that was run to its end leaves the program as it is to be told
pub ends_told : (program : Program) (plan : List ℕ) (old new : Option (List ℕ)) (how : How) (bytes : ℕ) → RunsPlan program plan old new (Some how) bytes → IsComplete how
ends_told program plan old new how bytes r = by r.machine.ended refl r.how_is
  where
    by : (o : Option How) → r.machine.ended ≡ o → EndsAs program r.machine o (Some how) → IsComplete how
    by (Some other) e is = over_complete how (run_well program (opening program) r.machine plan (opens_well program) r.runs how (e ∙ sym is))
    by None e is = subst IsComplete (sym is.0) by_deadlock

-- ---- the answer

module _ (came : CamePlain) (program : Program) (mode : Mode) (journal : List Entry) where
  complete_cause : (how : How) (answer : Answer) → IsComplete how → IsOutcome answer (Some how) → RanWhole came program mode journal (Some how) → PlanCause came program mode journal answer
  complete_cause how (Exit status) done is ran = subst (RanWhole came program mode journal) is ran
  complete_cause how Deadlock done is ran = subst (RanWhole came program mode journal) is ran
  complete_cause how (Trap cause) done is ran = subst (RanWhole came program mode journal) is ran
  complete_cause how Differ done is ran = absurd (let other : IsComplete ByDiffer = subst IsComplete (let f : Some how ≡ Some ByDiffer = is in cc) done in elim other [ ])
  complete_cause how NoMajority done is ran = absurd (let other : IsComplete ByNoMajority = subst IsComplete (let f : Some how ≡ Some ByNoMajority = is in cc) done in elim other [ ])
  complete_cause how (Limit steps next) done is ran = absurd (let other : IsComplete (ByLimit steps next) = subst IsComplete (let f : Some how ≡ Some (ByLimit steps next) = is in cc) done in elim other [ ])
  complete_cause how (SinkFailed taken) done is ran = absurd (let other : IsComplete (BySink taken) = subst IsComplete (let f : Some how ≡ Some (BySink taken) = is in cc) done in elim other [ ])
  complete_cause how Unended done is ran = absurd is
  complete_cause how StoreFailed done is ran = absurd (let f : Some how ≡ None = is in cc)
  complete_cause how (BadExe code) done is ran = absurd (let f : Some how ≡ None = is in cc)
  complete_cause how (BadFaults line code) done is ran = absurd (let f : Some how ≡ None = is in cc)
  complete_cause how (BadPlan line code) done is ran = absurd (let f : Some how ≡ None = is in cc)
  complete_cause how (Other line) done is ran = absurd (let f : Some how ≡ None = is in cc)
  complete_cause how (NoStep place) done is ran = absurd is
  complete_cause how NoRace done is ran = absurd is
  complete_cause how (Race i j byte) done is ran = absurd is
  complete_cause how BadWords done is ran = absurd (let f : Some how ≡ None = is in cc)
  complete_cause how (TooLong kind) done is ran = absurd (let f : Some how ≡ None = is in cc)
  complete_cause how NoMemory done is ran = absurd (let f : Some how ≡ None = is in cc)

  pub whole_cause : (how : Option How) (answer : Answer) → AnswersEnd answer how → RanWhole came program mode journal how → PlanCause came program mode journal answer
  whole_cause None answer is ran = subst (PlanCause came program mode journal) (sym is) ran
  whole_cause (Some how) answer is ran = complete_cause how answer (ends_told program (plan_in mode journal) came.held_before came.held_after how came.bytes ran.runs) is ran
