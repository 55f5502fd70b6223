-- What the windows of the pages say.
use Rattle.std.specs.Prelude.{ℕ, ◌≡◌, ◌+◌, ◌*◌, ◌/◌, ◌%◌, ◌^◌, ◌<◌, ◌≤◌, true, List, length, slice_get, slice_index, Some}
use Rattle.ro_region.specs.declared.Kind.{Kind}
use Rattle.ro_region.specs.declared.Range.{Range}
use Rattle.ro_region.specs.declared.windows.Window.{Window}
use Rattle.ro_region.specs.Permission.{permits_byte}

-- every byte in the window of a page is permitted; what is outside may be too
pub record IsOpen (ranges : List Range) (kind : Kind) (page : ℕ) (window : Window) : Type 0 where
  pub ordered : window.from ≤ window.to
  pub within : window.to ≤ 4096
  pub permitted : (k : ℕ) → window.from ≤ k → k < window.to → permits_byte ranges kind (4096 * page + k) ≡ true

-- each 1,024 pages have a second table
pub record AreTables (firsts : List ℕ) (windows : List Window) : Type 0 where
  pub all : length firsts ≡ 1024
  pub within : (t : ℕ) → t < 1024 → slice_index firsts t + 1024 ≤ length windows

-- the window that the two tables have for a page is open
abbrev pub AreOpen : List Range → Kind → (firsts : List ℕ) → List Window → Type 0
AreOpen ranges kind firsts windows = (page : ℕ) (window : Window) → page < 2 ^ 20 → slice_get windows (slice_index firsts (page / 1024) + page % 1024) ≡ Some window → IsOpen ranges kind page window

-- there is one for each page
pub record AreAll (ranges : List Range) (kind : Kind) (firsts : List ℕ) (windows : List Window) : Type 0 where
  pub tables : AreTables firsts windows
  pub sound : AreOpen ranges kind firsts windows

-- the first 1,024 windows have no byte
pub record AreClosed (windows : List Window) : Type 0 where
  pub some : 1024 ≤ length windows
  pub closed : (i : ℕ) → i < 1024 → slice_get windows i ≡ Some (record { from = 0; to = 0 })

-- the windows that stand from a place on are those of 1,024 pages
abbrev pub AreOpenFrom : List Range → Kind → (table first : ℕ) → List Window → Type 0
AreOpenFrom ranges kind table first windows = (k : ℕ) (window : Window) → k < 1024 → slice_get windows (first + k) ≡ Some window → IsOpen ranges kind (1024 * table + k) window

-- there are as many windows, and those before a place stay
pub record AreKept (first : ℕ) (new old : List Window) : Type 0 where
  pub long : length new ≡ length old
  pub same : (i : ℕ) → i < first → slice_get new i ≡ slice_get old i

-- behind the others there are 1,024 windows of no byte
pub record AreAdded (new old : List Window) : Type 0 where
  pub long : length new ≡ length old + 1024
  pub same : (i : ℕ) → i < length old → slice_get new i ≡ slice_get old i
  pub closed : (k : ℕ) → k < 1024 → slice_get new (length old + k) ≡ Some (record { from = 0; to = 0 })

-- the windows of 1,024 pages stand from a place on, and those before stay
pub record IsTable (ranges : List Range) (kind : Kind) (table first : ℕ) (new old : List Window) : Type 0 where
  pub longer : length old ≤ length new
  pub within : first + 1024 ≤ length new
  pub same : (i : ℕ) → i < length old → slice_get new i ≡ slice_get old i
  pub sound : AreOpenFrom ranges kind table first new
