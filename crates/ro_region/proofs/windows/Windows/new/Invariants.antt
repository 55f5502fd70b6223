use Rattle.std.proofs.Common.{ℕ, ◌≡◌, ◌+◌, ◌/◌, ◌%◌, ◌<◌, ◌≤◌, length, slice_index, Some}
use Rattle.std.specs.List.{slice_get}
use Rattle.ro_region.specs.Windows.{IsOpen, AreClosed}
use Rattle.ro_region.specs.declared.windows.Window.{Window}
use Rattle.ro_region.proofs.windows.Windows.new.Given as goal

abbrev pub invariant-loop-table : goal.invariant-loop-table
invariant-loop-table l = record {
  full : length l.firsts.items ≡ l.table;
  closed : AreClosed l.windows.items;
  within : (t : ℕ) → t < length l.firsts.items → slice_index l.firsts.items t + 1024 ≤ length l.windows.items;
  sound : (page : ℕ) (window : Window) → page / 1024 < length l.firsts.items → slice_get l.windows.items (slice_index l.firsts.items (page / 1024) + page % 1024) ≡ Some window → IsOpen l.ranges l.kind page window;
}
