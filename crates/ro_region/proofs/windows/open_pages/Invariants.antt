use Rattle.ro_region.specs.Windows.{AreKept, AreOpenFrom}
use Rattle.ro_region.proofs.windows.open_pages.Given as goal

abbrev pub invariant-loop-place : goal.invariant-loop-place
invariant-loop-place l = record {
  kept : AreKept l.first l.windows l.fn.windows;
  sound : AreOpenFrom l.ranges l.kind l.table l.first l.windows;
}
