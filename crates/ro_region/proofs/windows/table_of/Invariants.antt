use Rattle.ro_region.specs.Windows.{IsTable}
use Rattle.ro_region.proofs.windows.table_of.Given as goal

abbrev pub invariant-loop-i : goal.invariant-loop-i
invariant-loop-i l = IsTable l.ranges l.kind l.table l.first l.windows.items l.fn.windows.items
