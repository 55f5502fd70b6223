use Rattle.ro_speed.proofs.machine.Machine.run.Goals as goal

pub loop-init : goal.loop-init
loop-init g c = c.nothing-learnt.ensures _ _ _
