-- What a run of a journal's plan on the unreplicated machine comes to.
use Rattle.std.specs.Prelude.{◌≡◌, ℕ, List, length, Option, Some}
use Rattle.ro_io.specs.Outside.{more}
use Rattle.ro_journal.specs.declared.How.{How}
use Rattle.ro_journal.specs.declared.Entry.{Entry}
use Rattle.ro_journal.specs.Plan.{plan_of}
use Rattle.ro_legal.specs.Core.{Job}
use Rattle.ro_legal.specs.Legal.{output_of}
use Rattle.ro_machine.specs.Plans.{RunsPlan, LacksStep}

-- Each step of the plan exists; where all are run, the program ends as the journal does, and writes what the journal's
-- run wrote.
pub record IsRepeated (job : Job) (journal : List Entry) (how : How) : Type 0 where
  pub steps_exist : (old new : Option (List ℕ)) (place : ℕ) → LacksStep job.program (plan_of journal) old new place → ⊥
  pub same_end : (old new : Option (List ℕ)) (answer : Option How) (bytes : ℕ) → RunsPlan job.program (plan_of journal) old new answer bytes → answer ≡ Some how
  pub same_output : (old new : Option (List ℕ)) (answer : Option How) (bytes : ℕ) → RunsPlan job.program (plan_of journal) old new answer bytes →
      (new ≡ more old (output_of job journal)) × (bytes ≡ length (output_of job journal))
