use Rattle.std.proofs.Common.{ℕ, ◌≡◌, ◌<◌, Some, false, slice_get, length, ◌-◌}
use Rattle.ro_races.specs.declared.sources.Row.{Row}
use Rattle.ro_races.specs.Seen.{is_source}
use Rattle.ro_races.proofs.sources.place_of.Given as goal

abbrev pub invariant-loop-place : goal.invariant-loop-place
invariant-loop-place l = (k : ℕ) (row : Row) → k < l.place → slice_get l.rows k ≡ Some row → is_source row.source l.source ≡ false

abbrev pub decreases-loop-place : goal.decreases-loop-place
decreases-loop-place l = length l.rows - l.place
