use Rattle.std.proofs.Common.{◌≡◌, List, ◌++◌, length, map, take, drop}
use Rattle.ro_event.specs.Functions.{functions}
use Rattle.ro_sym.specs.Calls.{address_of}
use Rattle.ro_sym.proofs.table.call_table.Given as goal

-- the addresses so far, and those of the places that are left
abbrev pub invariant-loop-i : goal.invariant-loop-i
invariant-loop-i l = record {
  long : length l.addresses ≡ length functions;
  made : take l.i l.addresses ++ map address_of (drop l.i l.places) ≡ map address_of l.places;
}
