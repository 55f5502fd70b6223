use Rattle.std.proofs.Common.{◌≡◌, ◌≤◌, ◌-◌, Some}
use Rattle.ro_exec.specs.Stretches.{IsAlong, IsLearnt}
use Rattle.ro_thread.specs.Runs.{instructions}
use Rattle.ro_thread.proofs.Instructions.{ran_on}
use Rattle.ro_thread.proofs.running.run.Given as goal
use Rattle.ro_region.specs.Permission.{ranges_of}

abbrev pub invariant-loop-left : goal.invariant-loop-left
invariant-loop-left g l = record {
  few : l.left ≤ l.bound;
  thread : l.thread ≡ l.fn.thread;
  same : g.M.Memory.backing l.memory ≡ g.M.Memory.backing l.fn.memory;
  places : g.M.Memory.kept l.memory ≡ g.M.Memory.kept l.fn.memory;
  learnt : IsLearnt (record { ranges = ranges_of l.regions; calls = l.calls }) (g.M.Memory.backing l.memory) (g.M.Memory.kept l.memory) (record { code = l.stretch; reads = l.learnt.reads; writes = l.learnt.writes });
  along : IsAlong l.stretch l.until l.pc;
  ran : instructions (record { ranges = ranges_of l.regions; calls = l.calls }) l.watchdog (g.M.Memory.backing l.fn.memory) (l.bound - l.left) (record { thread = l.fn.thread; memory = g.M.Memory.memory l.fn.memory }) ≡ Some (ran_on l.fn.thread (l.bound - l.left) (record { registers = l.registers; pc = l.pc }) (g.M.Memory.memory l.memory));
}

abbrev pub decreases-loop-left : goal.decreases-loop-left
decreases-loop-left g l = l.left
