use Rattle.ro_group.proofs.Sizes.{ReleasedTo}
use Rattle.ro_group.proofs.groups.Groups.release.Given as goal

abbrev pub invariant-loop-replica : goal.invariant-loop-replica
invariant-loop-replica l = ReleasedTo l.fn.self l.self l.thread l.replica
