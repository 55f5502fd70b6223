use Rattle.std.proofs.Common.{ℕ, List, ◌≡◌, ◌+◌, ◌≤◌, ◌-◌, replicate}
use Rattle.ro_plain.specs.Machine.{Program}
use Rattle.ro_races.specs.Shadows.{IsTable, AreTables}
use Rattle.ro_races.specs.Follows.{Follows, StandsAt}
use Rattle.ro_races.proofs.running.check_steps.Given as goal

abbrev pub invariant-loop-done : goal.invariant-loop-done
invariant-loop-done l = record {
  reads : IsTable l.checker.reads.items;
  writes : IsTable l.checker.writes.items;
  atomics : AreTables l.checker.atomics;
  few : l.done ≤ l.count;
  steps : l.checker.steps ≡ l.fn.checker.steps + l.done;
  follows : (program : Program) (threads : List ℕ) → Follows program threads l.fn.checker → StandsAt threads l.fn.checker.steps (replicate l.count l.thread) → Follows program threads l.checker;
}

abbrev pub decreases-loop-done : goal.decreases-loop-done
decreases-loop-done l = l.count - l.done
