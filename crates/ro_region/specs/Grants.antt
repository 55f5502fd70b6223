-- What the pages of the memory that is given on demand permit.
use Rattle.std.specs.Prelude.{ℕ, ◌≡◌, ◌+◌, ◌*◌, ◌<◌, Bool, true, false, List, length, slice_get, Some}
use Rattle.ro_region.specs.declared.Kind.{Kind}
use Rattle.ro_region.specs.declared.Kind.TheVariants.{Read, Execute}
use Rattle.ro_region.specs.declared.Range.{Range}
use Rattle.ro_region.specs.declared.grants.Grant.{Grant}
use Rattle.ro_region.specs.declared.grants.Grant.TheVariants.{Nothing, Loads, LoadsAndStores}
use Rattle.ro_region.specs.Permission.{permits_byte}

abbrev pub grants : Grant → Kind → Bool
grants Nothing kind = false
grants Loads Read = true
grants Loads kind = false
grants LoadsAndStores Execute = false
grants LoadsAndStores kind = true

-- what is granted of a page, by its place behind the first, is permitted of each byte of it
abbrev pub IsGranted : List Range → (place : ℕ) → Grant → Type 0
IsGranted ranges place grant = (kind : Kind) (k : ℕ) → grants grant kind ≡ true → k < 4096 → permits_byte ranges kind (4096 * (0x50000 + place) + k) ≡ true

pub record AreGranted (ranges : List Range) (pages : List Grant) : Type 0 where
  pub count : length pages ≡ 4096
  pub sound : (place : ℕ) (grant : Grant) → slice_get pages place ≡ Some grant → IsGranted ranges place grant
