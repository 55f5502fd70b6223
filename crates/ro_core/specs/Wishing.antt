-- What threads wish, and how it is noted.
use Rattle.std.specs.Prelude.{◌≡◌, ◌≢◌, ◌<◌, ◌+◌, ◌*◌, ◌&&◌, ℕ, Bool, nat_le, List, length, Option, Some, if◌then◌else◌, slice_get}
use Rattle.ro_event.specs.declared.stops.Stop.{Stop}
use Rattle.ro_event.specs.declared.stops.Stop.TheVariants.{PageFault}
use Rattle.ro_legal.specs.Parts.{most_misses, wish_with}
use Rattle.ro_core.specs.declared.wishing.Wish.{Wish}

-- the place of a thread of a replica
abbrev pub wish_place : (replica thread : ℕ) → ℕ
wish_place replica thread = 16 * replica + thread

-- the wish behind a stop: a page at whose fault it stands comes first
abbrev pub wished_behind : Option Stop → List ℕ → List ℕ
wished_behind (Some (PageFault page)) pages = wish_with page pages
wished_behind stop pages = pages

-- the count of misses, which goes no further than one past those that are too many
abbrev pub missed_behind : (missed : Bool) → ℕ → ℕ
missed_behind missed misses = if missed && nat_le misses most_misses then misses + 1 else misses

-- as many, or one past those that are too many
abbrev pub few_misses : ℕ → ℕ
few_misses misses = if nat_le misses most_misses then misses else most_misses + 1

-- one wish changes
pub record Changes (place : ℕ) (old new : List Wish) (f : Wish → Wish → Type 0) : Type 0 where
  pub count : length new ≡ length old
  pub others : (other : ℕ) → other ≢ place → slice_get new other ≡ slice_get old other
  pub its : (wish : Wish) → slice_get old place ≡ Some wish → (after : Wish) × (slice_get new place ≡ Some after) × f wish after

abbrev pub NotesFault : (place : ℕ) → Option Stop → (missed : Bool) → (old new : List Wish) → Type 0
NotesFault place stop missed old new =
    Changes place old new (λ wish after. (after.pages.items ≡ wished_behind stop wish.pages.items) × (after.misses ≡ missed_behind missed wish.misses))

abbrev pub ForgetsMisses : (place : ℕ) → (old new : List Wish) → Type 0
ForgetsMisses place old new = Changes place old new (λ wish after. (after.pages.items ≡ wish.pages.items) × (after.misses ≡ 0))

-- a thread is said to have missed no page, in each replica below a number
pub record Forgives (thread replicas : ℕ) (old new : List Wish) : Type 0 where
  pub count : length new ≡ length old
  pub its : (replica : ℕ) (wish : Wish) → replica < replicas → slice_get old (wish_place replica thread) ≡ Some wish → (after : Wish) × (slice_get new (wish_place replica thread) ≡ Some after) × (after.pages.items ≡ wish.pages.items) × (after.misses ≡ 0)
  pub others : (place : ℕ) → ((replica : ℕ) → replica < replicas → place ≢ wish_place replica thread) → slice_get new place ≡ slice_get old place
