use Rattle.std.proofs.Common.{ℕ, List, ◌≡◌, ◌+◌, replicate}
use Rattle.ro_plain.specs.Machine.{Program}
use Rattle.ro_machine.specs.Lanes.{IsOpen}
use Rattle.ro_races.specs.Seen.{IsOwn}
use Rattle.ro_races.specs.Shadows.{IsTable, AreTables}
use Rattle.ro_races.specs.Follows.{Follows, StandsAt, put_back}
use Rattle.ro_races.proofs.running.check_lane.Given as goal

abbrev pub invariant-loop-taken : goal.invariant-loop-taken
invariant-loop-taken l = record {
  reads : IsTable l.checker.reads.items;
  writes : IsTable l.checker.writes.items;
  atomics : AreTables l.checker.atomics;
  opened : IsOpen l.checker.plain l.lane;
  own : IsOwn l.checker.rows.items l.lane.thread l.own;
  thread : l.lane.thread ≡ l.fn.lane.thread;
  steps : l.checker.steps ≡ l.fn.checker.steps + l.taken;
  follows : (program : Program) (threads : List ℕ) → Follows program threads (put_back l.fn.checker l.fn.lane) → StandsAt threads l.fn.checker.steps (replicate l.most l.fn.lane.thread) → Follows program threads (put_back l.checker l.lane);
}
