-- Clocks and sources of the code.
use Rattle.std.specs.Prelude.{◌≡◌, ◌≢◌, ℕ, ◌<◌, ◌==◌, nat_eq, Bool, true, false, cond, List, [], ◌∷◌, Option, Some, None, length, slice_get, slice_index_or}
use Rattle.std.specs.Map.{lookup}
use Rattle.ro_races.specs.declared.marks.Clock.{Clock}
use Rattle.ro_races.specs.declared.sources.Source.{Source}
use Rattle.ro_races.specs.declared.sources.Source.TheVariants.{Thread, Mutex, Exit, Word}
use Rattle.ro_races.specs.declared.sources.Row.{Row}
use Rattle.ro_races.specs.Clocks.{Clock as ClockOf, IsJoined}

-- how far a clock knows the steps of each thread
abbrev pub seen_by : Clock → ClockOf
seen_by clock thread = slice_index_or clock.seen thread 0

abbrev pub is_source : Source → Source → Bool
is_source (Thread a) (Thread b) = a == b
is_source (Mutex a) (Mutex b) = a == b
is_source (Exit a) (Exit b) = a == b
is_source (Word a) (Word b) = a == b
is_source _ _ = false

-- what a source knows, by the rows; one that does not stand there knows nothing
abbrev pub known_by : List Row → Source → ClockOf
known_by [] source = λ _. 0
known_by (row ∷ rows) source = cond (is_source row.source source) (seen_by row.clock) (known_by rows source)

-- what a word knows, by the clock that it has, if it has one
abbrev pub known_of : Option Clock → ClockOf
known_of None = λ _. 0
known_of (Some clock) = seen_by clock

-- what each source knows: a word by a clock of its own, and all others by the rows
abbrev pub known_in : List Row → (words : List (ℕ × Clock)) → Source → ClockOf
known_in rows words (Word word) = known_of (lookup (nat_eq word) words)
known_in rows words source = known_by rows source

-- the first of the rows of a source, or that it has none
abbrev pub IsPlace : List Row → Source → Option ℕ → Type 0
IsPlace rows source None = (k : ℕ) (row : Row) → slice_get rows k ≡ Some row → is_source row.source source ≡ false
IsPlace rows source (Some place) =
    ((row : Row) → slice_get rows place ≡ Some row → is_source row.source source ≡ true) × ((k : ℕ) (row : Row) → k < place → slice_get rows k ≡ Some row → is_source row.source source ≡ false)

-- what the sources know
abbrev pub Lore : Type 0
Lore = Source → ClockOf

-- a source learns what a clock knows, and no other learns anything
pub record Passes (old : Lore) (source : Source) (past : Clock) (new : Lore) : Type 0 where
  pub learnt : IsJoined (old source) (seen_by past) (new source)
  pub others : (other : Source) → other ≢ source → (thread : ℕ) → new other thread ≡ old other thread

-- a source knows what a clock knows, and no other learns anything
pub record Keeps (old : Lore) (source : Source) (past : Clock) (new : Lore) : Type 0 where
  pub learnt : (thread : ℕ) → new source thread ≡ seen_by past thread
  pub others : (other : Source) → other ≢ source → (thread : ℕ) → new other thread ≡ old other thread

-- what a step of a thread knows, by what it learns from
abbrev pub IsPast : Lore → (thread : ℕ) → Option Source → Clock → Type 0
IsPast lore thread None clock = (other : ℕ) → seen_by clock other ≡ lore (Thread thread) other
IsPast lore thread (Some source) clock = IsJoined (lore (Thread thread)) (lore source) (seen_by clock)

-- a clock is kept for a thread's next step, and passed on to one more source if there is one
abbrev pub PassesOn : (old : Lore) → (thread : ℕ) → Option Source → Clock → (new : Lore) → Type 0
PassesOn old thread None past new = Keeps old (Thread thread) past new
PassesOn old thread (Some source) past new = (mid : Lore) × Keeps old (Thread thread) past mid × Passes mid source past new

-- the place of the row of a thread
pub record IsOwn (rows : List Row) (thread place : ℕ) : Type 0 where
  pub there : place < length rows
  pub first : IsPlace rows (Thread thread) (Some place)
