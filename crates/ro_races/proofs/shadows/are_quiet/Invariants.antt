use Rattle.std.proofs.Common.{ℕ, ◌≤◌, ◌<◌, slice_index_or}
use Rattle.ro_races.specs.Seen.{seen_by}
use Rattle.ro_races.specs.Shadows.{no_marks}
use Rattle.ro_races.proofs.shadows.are_quiet.Given as goal

abbrev pub invariant-loop-i : goal.invariant-loop-i
invariant-loop-i l = (k thread : ℕ) → l.offset ≤ k → k < l.i → seen_by (slice_index_or l.clocks k no_marks) thread ≤ seen_by l.past thread
