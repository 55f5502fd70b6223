-- What a legal journal of a cooperative run says of the unreplicated machine.
use Rattle.std.specs.Prelude.{◌≡◌, ◌≢◌, ◌<◌, ◌+◌, ℕ, true, List, ◌++◌, length, Some, None, take, slice_get}
use Rattle.ro_journal.specs.declared.How.{How}
use Rattle.ro_journal.specs.declared.How.TheVariants.{Deadlock, Differ, Limit, Sink}
use Rattle.ro_journal.specs.declared.Entry.{Entry}
use Rattle.ro_journal.specs.Plan.{outcome_of}
use Rattle.ro_plain.specs.Machine.{Machine, opening, step, run, IsExecution, AllEnd}
use Rattle.ro_orders.specs.Turns.{OfMutex, order_of}
use Rattle.ro_orders.specs.Choices.{chosen_of}
use Rattle.ro_orders.specs.Copies.{Rows}
use Rattle.ro_legal.specs.Core.{Job, Core}
use Rattle.ro_legal.specs.Cooperative.{replay}
use Rattle.ro_simulation.specs.Theorem.{EndsComplete}
use Rattle.ro_coop.specs.Core.{is_outcome, first_of}

-- The first steps are an execution, in which threads get each mutex in the order of its rows. What was written is what it writes, but for
-- what a failing sink did not take, and where the run ended by an exit or a trap, it ends so.
pub record IsExecutionOf (job : Job) (rows : Rows) (first : List ℕ) (core : Core) : Type 0 where
  pub machine : Machine
  pub reached : run job.program (opening job.program) first ≡ Some machine
  pub prefix : (count : ℕ) × (core.output ≡ take count machine.output)
  pub whole : ((bytes : ℕ) → core.ended ≢ Some (Sink bytes)) → core.output ≡ machine.output
  pub goes_on : core.due ≡ None → core.ended ≡ None → machine.ended ≡ None
  pub ends : (how : How) → is_outcome how ≡ true → core.ended ≡ Some how → machine.ended ≡ Some how
  pub in_rows : (mutex rank thread : ℕ) → slice_get (order_of job.program (chosen_of job.program) (OfMutex mutex) (opening job.program) first) rank ≡ Some thread → rows mutex rank ≡ Some thread

-- The limit of steps stands where an execution is longer: the first steps go on by the threads of what would have come next.
pub record PassedLimit (job : Job) (journal : List Entry) (steps next : ℕ) : Type 0 where
  pub threads : List ℕ
  pub runs : IsExecution job.program (first_of journal ++ threads)
  pub steps_are : steps ≡ length (first_of journal)
  pub next_is : next ≡ length threads
  pub above : job.settings.limit < steps + next

-- A whole run is an execution, that of its first steps. An exit or a trap by which its journal ends is how that ended, a deadlock is one
-- of it, and no journal ends by a difference. Where it ends by the limit, an execution is longer; so a program of which none is comes to
-- its own end.
pub record RunsAsFirst (job : Job) (rows : Rows) (journal : List Entry) : Type 0 where
  pub execution : IsExecutionOf job rows (first_of journal) (replay job journal)
  pub ends : (how : How) → is_outcome how ≡ true → outcome_of journal ≡ Some how → execution.machine.ended ≡ Some how
  pub deadlock : outcome_of journal ≡ Some Deadlock → (execution.machine.ended ≡ None) × ((t : ℕ) (after : Machine) → step job.program execution.machine t ≡ Some after → ⊥)
  pub no_difference : outcome_of journal ≢ Some Differ
  pub limit : (steps next : ℕ) → outcome_of journal ≡ Some (Limit steps next) → PassedLimit job journal steps next
  pub complete : AllEnd job.program job.settings.limit → EndsComplete journal
