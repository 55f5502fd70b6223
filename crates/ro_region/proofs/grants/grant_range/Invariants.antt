use Rattle.std.proofs.Common.{List, ◌∷◌}
use Rattle.ro_region.specs.declared.Range.{Range}
use Rattle.ro_region.specs.Grants.{AreGranted}
use Rattle.ro_region.proofs.grants.grant_range.Given as goal

abbrev pub invariant-loop-place : goal.invariant-loop-place
invariant-loop-place l = (ranges : List Range) → AreGranted ranges l.fn.pages.items → AreGranted (l.range ∷ ranges) l.pages.items
