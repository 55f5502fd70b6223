use Rattle.ro_races.specs.Shadows.{IsTable, Marks}
use Rattle.ro_races.proofs.shadows.mark_bytes.Given as goal

abbrev pub invariant-loop-offset : goal.invariant-loop-offset
invariant-loop-offset l = record {
  whole : IsTable l.table.items;
  marks : Marks l.fn.table.items (record { place = l.first; count = l.offset }) l.thread l.place l.table.items;
}
