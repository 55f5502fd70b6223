-- What vector clocks know of a run.
use Rattle.std.specs.Prelude.{◌≡◌, ◌≢◌, ℕ, suc, ◌<◌, ◌⊎◌, ◌↔◌, max, List, Option, Some, None, slice_get}
use Rattle.ro_plain.specs.Machine.{Program}
use Rattle.ro_plain.specs.Order.{Sync, Unlocks, Locks, Makes, Joins, Exits, Updates, Observes, sync_at, HappensBefore}
use Rattle.ro_races.specs.declared.sources.Source.{Source}
use Rattle.ro_races.specs.declared.sources.Source.TheVariants.{Thread, Mutex, Exit, Word}

-- for each thread, how far its steps are known: one more than the place of the last of them, or 0 where none is
abbrev pub Clock : Type 0
Clock = ℕ → ℕ

-- it knows what either knows
abbrev pub IsJoined : (one other both : Clock) → Type 0
IsJoined one other both = (thread : ℕ) → both thread ≡ max (one thread) (other thread)

-- it knows of the step of a thread at a place, and else of the same steps
pub record IsStepped (old : Clock) (thread place : ℕ) (new : Clock) : Type 0 where
  pub own : new thread ≡ suc place
  pub others : (other : ℕ) → other ≢ thread → new other ≡ old other

-- from what, besides the thread's own past, a step learns
abbrev pub learns_from : Sync → Option Source
learns_from (Locks mutex) = Some (Mutex mutex)
learns_from (Joins thread) = Some (Exit thread)
learns_from (Updates word) = Some (Word word)
learns_from (Observes word) = Some (Word word)
learns_from _ = None

-- to what, besides the thread's own next step, a step passes on what it knows
abbrev pub passes_to : (thread : ℕ) → Sync → Option Source
passes_to thread (Unlocks mutex) = Some (Mutex mutex)
passes_to thread (Makes other) = Some (Thread other)
passes_to thread Exits = Some (Exit thread)
passes_to thread (Updates word) = Some (Word word)
passes_to thread _ = None

module _ (program : Program) (threads : List ℕ) where
  -- of the places of the run it knows those, and no other
  abbrev pub Knows : Clock → (ℕ → Type 0) → Type 0
  Knows clock P = (place thread : ℕ) → slice_get threads place ≡ Some thread → (place < clock thread) ↔ P place

  -- the place itself, or one that happens before it
  abbrev pub UpTo : (last place : ℕ) → Type 0
  UpTo last place = (place ≡ last) ⊎ HappensBefore program threads place last

  -- the step at a place passes on to the source
  abbrev pub Feeds : Source → (place : ℕ) → Type 0
  Feeds (Thread thread) place = (slice_get threads place ≡ Some thread) ⊎ (sync_at program threads place ≡ Makes thread)
  Feeds (Mutex mutex) place = sync_at program threads place ≡ Unlocks mutex
  Feeds (Exit thread) place = (slice_get threads place ≡ Some thread) × (sync_at program threads place ≡ Exits)
  Feeds (Word word) place = sync_at program threads place ≡ Updates word

  -- up to one of the first so many places that passes on to the source
  pub record Past (count : ℕ) (source : Source) (place : ℕ) : Type 0 where
    pub last : ℕ
    pub early : last < count
    pub feeds : Feeds source last
    pub up : UpTo last place

  abbrev pub PastOf : (count : ℕ) → Option Source → (place : ℕ) → Type 0
  PastOf count None place = ⊥
  PastOf count (Some source) place = Past count source place
