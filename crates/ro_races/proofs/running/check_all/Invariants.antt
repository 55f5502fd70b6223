use Rattle.std.proofs.Common.{ℕ, List, ◌≡◌, length, take}
use Rattle.ro_plain.specs.Machine.{Program}
use Rattle.ro_plans.specs.Plans.{plan_in}
use Rattle.ro_plans.specs.Walks.{Passed, mode_of}
use Rattle.ro_races.specs.Shadows.{IsTable, AreTables}
use Rattle.ro_races.specs.Follows.{Follows, StandsAt}
use Rattle.ro_races.proofs.running.check_all.Given as goal

abbrev pub invariant-loop-place : goal.invariant-loop-place
invariant-loop-place l = record {
  mode : mode_of l.walk ≡ l.fn.mode;
  passed : Passed l.walk (take l.place l.journal);
  reads : IsTable l.checker.reads.items;
  writes : IsTable l.checker.writes.items;
  atomics : AreTables l.checker.atomics;
  steps : l.checker.steps ≡ length (plan_in l.fn.mode (take l.place l.journal));
  follows : (program : Program) (threads : List ℕ) → Follows program threads l.fn.checker → StandsAt threads 0 (plan_in l.fn.mode l.journal) → Follows program threads l.checker;
}
