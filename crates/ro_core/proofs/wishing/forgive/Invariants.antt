use Rattle.ro_core.specs.Wishing.{Forgives}
use Rattle.ro_core.proofs.wishing.forgive.Given as goal

abbrev pub invariant-loop-replica : goal.invariant-loop-replica
invariant-loop-replica l = Forgives l.thread l.replica l.fn.wishes l.wishes
