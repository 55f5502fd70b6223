use Rattle.std.proofs.Common.{ℕ, ◌≡◌, ◌<◌, ◌/◌, length, slice_index_or}
use Rattle.ro_races.specs.Shadows.{no_marks}
use Rattle.ro_races.proofs.shadows.spread.Given as goal

abbrev pub invariant-loop-byte : goal.invariant-loop-byte
invariant-loop-byte l = record {
  count : length l.bytes.items ≡ 4096;
  same : (i : ℕ) → i < l.byte → slice_index_or l.bytes.items i no_marks ≡ slice_index_or l.words (i / 4) no_marks;
}
