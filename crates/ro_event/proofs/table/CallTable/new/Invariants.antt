use Rattle.std.proofs.Common.{take}
use Rattle.ro_event.specs.Addresses.{IsFilter}
use Rattle.ro_event.proofs.table.CallTable.new.Given as goal

abbrev pub invariant-loop-i : goal.invariant-loop-i
invariant-loop-i l = IsFilter (take l.i l.addresses) l.filter
