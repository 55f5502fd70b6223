-- The passes of a lock page that drivers share.
use Rattle.std.specs.Prelude.{◌≡◌, ◌+◌, ℕ, List, length}
use Rattle.atomic_table.specs.Seated.{TableId}
use Rattle.ro_lockpage.specs.Pages.{PassOf, AreFrom}

-- those of the eight that so many drivers don't have
abbrev pub AreSpare : TableId → List PassOf → (drivers : ℕ) → Type 0
AreSpare page passes drivers = AreFrom page drivers passes × (drivers + length passes ≡ 8)
