use Rattle.ro_core.specs.Grouped.{Settles}
use Rattle.ro_core.proofs.grouping.settle.Given as goal

abbrev pub invariant-loop-replica : goal.invariant-loop-replica
invariant-loop-replica l = Settles l.seats l.replica l.threads l.fn.groups l.groups
