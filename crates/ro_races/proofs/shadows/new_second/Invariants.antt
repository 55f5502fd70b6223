use Rattle.std.proofs.Common.{ℕ, ◌≡◌, length, [], Some, slice_get, Vec}
use Rattle.std.specs.declared.alloc.Global.{Global}
use Rattle.ro_races.specs.declared.marks.Clock.{Clock}
use Rattle.ro_races.proofs.shadows.new_second.Given as goal

abbrev pub invariant-loop : goal.invariant-loop
invariant-loop l = record {
  pages : length l.second.items ≡ l.counter;
  empty : (k : ℕ) (page : Vec Clock Global) → slice_get l.second.items k ≡ Some page → page.items ≡ [];
}
