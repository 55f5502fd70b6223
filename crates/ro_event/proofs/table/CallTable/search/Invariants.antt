use Rattle.std.proofs.Common.{◌≡◌, drop}
use Rattle.ro_event.specs.Functions.{functions}
use Rattle.ro_event.specs.Table.{function_at}
use Rattle.ro_event.proofs.table.CallTable.search.Given as goal

abbrev pub invariant-loop-i : goal.invariant-loop-i
invariant-loop-i l = function_at l.self.addresses functions l.pc ≡ function_at (drop l.i l.self.addresses) (drop l.i functions) l.pc
