use Rattle.ro_replica.proofs.SoFar.{SoFar}
use Rattle.ro_replica.proofs.replicas.Replica.strike_all.Given as goal

abbrev pub invariant-loop-i : goal.invariant-loop-i
invariant-loop-i l = SoFar l.thread l.done l.fn.self l.self l.i l.hit
