use Rattle.ro_region.specs.Permission.{ranges_of}
use Rattle.ro_exec.specs.Stretches.{IsLearnt}
use Rattle.ro_speed.proofs.machine.Machine.run.Given as goal

abbrev pub invariant-loop : goal.invariant-loop
invariant-loop g l = IsLearnt (record { ranges = ranges_of l.self.regions; calls = l.self.calls }) (g.M.Memory.backing l.self.memory) (g.M.Memory.kept l.self.memory) l.learnt
