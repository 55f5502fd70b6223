use Rattle.std.proofs.Common.{◌≡◌, ℕ, List, ◌<◌, length}
use Rattle.std.specs.Prelude.{slice_index_or}
use Rattle.ro_legal.specs.Sides.{Side}
use Rattle.ro_coop_core.specs.Seats.{AreNumbered, IsCeiling}
use Rattle.ro_coop_core.proofs.ceilings.set_ceilings.Given as goal

-- the first so many are set
abbrev pub invariant-loop-number : goal.invariant-loop-number
invariant-loop-number l = record {
  count : length l.ceilings ≡ length l.fn.ceilings;
  set : (sides : List Side) (number address : ℕ) → number < l.number → AreNumbered number address sides l.seats → IsCeiling sides address (slice_index_or l.ceilings number 0);
}
