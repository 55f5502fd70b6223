use Rattle.ro_core.specs.Grouped.{CopiesRow}
use Rattle.ro_core.proofs.grouping.copy_row.Given as goal

abbrev pub invariant-loop-thread : goal.invariant-loop-thread
invariant-loop-thread l = CopiesRow l.from l.to l.thread l.fn.groups l.groups
