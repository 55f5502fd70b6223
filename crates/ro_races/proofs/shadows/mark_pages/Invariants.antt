use Rattle.std.proofs.Common.{◌≤◌, ◌-◌}
use Rattle.ro_races.specs.Shadows.{IsTable, Marks}
use Rattle.ro_races.proofs.shadows.mark_pages.Given as goal

abbrev pub invariant-loop-done : goal.invariant-loop-done
invariant-loop-done l = record {
  few : l.done ≤ l.stretch.count;
  whole : IsTable l.table.items;
  marks : Marks l.fn.table.items (record { place = l.stretch.place; count = l.done }) l.thread l.place l.table.items;
}

abbrev pub decreases-loop-done : goal.decreases-loop-done
decreases-loop-done l = l.stretch.count - l.done
