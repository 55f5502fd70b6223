use Rattle.std.proofs.Common.{ℕ, ◌≡◌, ◌+◌, ◌<◌, length, Some}
use Rattle.std.specs.List.{slice_get}
use Rattle.ro_region.proofs.windows.add_closed.Given as goal

abbrev pub invariant-loop : goal.invariant-loop
invariant-loop l = record {
  long : length l.windows.items ≡ length l.fn.windows.items + l.counter;
  same : (i : ℕ) → i < length l.fn.windows.items → slice_get l.windows.items i ≡ slice_get l.fn.windows.items i;
  closed : (k : ℕ) → k < l.counter → slice_get l.windows.items (length l.fn.windows.items + k) ≡ Some (record { from = 0; to = 0 });
}
