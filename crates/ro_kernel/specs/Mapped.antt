-- The memory that is given on demand: ranges that follow one another.
use Rattle.std.specs.Prelude.{◌≤◌, ℕ, ◌+◌, ◌*◌, ◌/◌, List, [], ◌∷◌, length}
use Rattle.ro_region.specs.declared.Range.{Range}

-- how far the ranges go that were given, the newest first
abbrev pub mapped_to : List Range → ℕ
mapped_to [] = 0x50000000
mapped_to (range ∷ ranges) = range.start + range.length

-- so many bytes in whole pages
abbrev pub in_pages : ℕ → ℕ
in_pages count = (count + 4095) / 4096 * 4096

-- they are no more than the pages up to where the newest ends, which is not behind what may be given
pub record IsMapped (given : List Range) : Type 0 where
  pub pages : 0x50000000 + 4096 * length given ≤ mapped_to given
  pub within : mapped_to given ≤ 0x51000000
