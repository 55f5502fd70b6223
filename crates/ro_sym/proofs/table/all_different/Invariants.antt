use Rattle.std.proofs.Common.{◌≡◌, drop}
use Rattle.ro_sym.specs.Calls.{are_different}
use Rattle.ro_sym.proofs.table.all_different.Given as goal

-- whether all differ is left to the places that are left
abbrev pub invariant-loop-i : goal.invariant-loop-i
invariant-loop-i l = are_different (drop l.i l.places) ≡ are_different l.places
