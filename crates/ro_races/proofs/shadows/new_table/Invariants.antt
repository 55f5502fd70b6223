use Rattle.std.proofs.Common.{ℕ, ◌≡◌, length, [], Some, slice_get, Vec}
use Rattle.std.specs.declared.alloc.Global.{Global}
use Rattle.ro_races.specs.declared.marks.Clock.{Clock}
use Rattle.ro_races.proofs.shadows.new_table.Given as goal

abbrev pub invariant-loop : goal.invariant-loop
invariant-loop l = record {
  seconds : length l.table.items ≡ l.counter;
  empty : (k : ℕ) (second : Vec (Vec Clock Global) Global) → slice_get l.table.items k ≡ Some second → second.items ≡ [];
}
