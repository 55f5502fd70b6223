-- Little-endian numbers in a file, by their offsets.
use Rattle.std.specs.Prelude.{ℕ, List, drop, slice_index}
use Rattle.byteorder.specs.Endian.{little_number}

abbrev pub byte_in : List ℕ → (offset : ℕ) → ℕ
byte_in bytes offset = slice_index bytes offset

-- two bytes, the lowest first
unfoldable pub half_in : List ℕ → (offset : ℕ) → ℕ
half_in bytes offset = little_number 2 (drop offset bytes)

-- four bytes, the lowest first
unfoldable pub word_in : List ℕ → (offset : ℕ) → ℕ
word_in bytes offset = little_number 4 (drop offset bytes)
