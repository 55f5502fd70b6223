-- The marks of each byte: how far the threads accessed it.
use Rattle.std.specs.Prelude.{◌≡◌, ◌≢◌, ℕ, ◌/◌, ◌%◌, ◌<◌, ◌≤◌, ◌⊎◌, ◌==◌, true, false, if◌then◌else◌, List, [], length, Option, Some, None, Vec, slice_get, slice_set, slice_index_or, replicate}
use Rattle.std.specs.declared.alloc.Global.{Global}
use Rattle.ro_pages.specs.Bytes.{Span, within}
use Rattle.ro_machine.specs.declared.watching.Stretch.{Stretch}
use Rattle.ro_machine.specs.declared.watching.Watched.{Watched}
use Rattle.ro_machine.specs.Watched.{span_of}
use Rattle.ro_races.specs.declared.marks.Clock.{Clock}
use Rattle.ro_races.specs.declared.atomics.Atomics.{Atomics}
use Rattle.ro_races.specs.declared.shadows.Hit.{Hit}
use Rattle.ro_races.specs.Clocks.{Clock as ClockOf, IsStepped}
use Rattle.ro_races.specs.Seen.{seen_by}

-- the second tables
abbrev pub Shadow : Type 0
Shadow = List (Vec (Vec Clock Global) Global)

abbrev pub pages_in : Option (Vec (Vec Clock Global) Global) → List (Vec Clock Global)
pages_in None = []
pages_in (Some second) = second.items

abbrev pub clocks_in : Option (Vec Clock Global) → List Clock
clocks_in None = []
clocks_in (Some page) = page.items

-- the clocks of a page; none where it was never marked
abbrev pub page_at : Shadow → (page : ℕ) → List Clock
page_at table page = clocks_in (slice_get (pages_in (slice_get table (page / 1024))) (page % 1024))

abbrev pub no_marks : Clock
no_marks = record { seen = replicate 16 0 }

-- the clock of a byte of a page that has one for each word, or one for all its bytes, or one for each byte
abbrev pub clock_at : List Clock → (offset : ℕ) → Clock
clock_at clocks offset = slice_index_or clocks (if length clocks == 1024 then offset / 4 else if length clocks == 1 then 0 else offset) no_marks

-- how far each thread has marked a byte
abbrev pub marks_at : Shadow → (byte : ℕ) → ClockOf
marks_at table byte = seen_by (clock_at (page_at table (byte / 4096)) (byte % 4096))

-- a page has no clocks, or one for all its bytes, or one for each word, or one for each byte
abbrev pub IsPage : List Clock → Type 0
IsPage clocks = (clocks ≡ []) ⊎ ((length clocks ≡ 1024) ⊎ ((length clocks ≡ 4096) ⊎ (length clocks ≡ 1)))

-- so many second tables, each of them empty or whole
pub record IsTable (table : Shadow) : Type 0 where
  pub seconds : length table ≡ 1025
  pub whole : (k : ℕ) (second : Vec (Vec Clock Global) Global) → slice_get table k ≡ Some second → (second.items ≡ []) ⊎ (length second.items ≡ 1024)
  pub pages : (page : ℕ) → IsPage (page_at table page)

-- the second table is whole
abbrev pub HasSecond : Shadow → ℕ → Type 0
HasSecond table k = length (pages_in (slice_get table k)) ≡ 1024

-- the page has clocks for its words or its bytes
abbrev pub IsMade : Shadow → (page : ℕ) → Type 0
IsMade table page = (length (page_at table page) ≡ 1024) ⊎ (length (page_at table page) ≡ 4096)

-- a page has these clocks, and every other page is as it was
pub record Changes (old : Shadow) (page : ℕ) (clocks : List Clock) (new : Shadow) : Type 0 where
  pub here : page_at new page ≡ clocks
  pub others : (other : ℕ) → other ≢ page → page_at new other ≡ page_at old other

-- one clock of a page has one more mark
pub record Advances (old : Shadow) (page index thread place : ℕ) (new : Shadow) : Type 0 where
  pub clock : Clock
  pub changes : Changes old page (slice_set (page_at old page) index clock) new
  pub stepped : IsStepped (seen_by (slice_index_or (page_at old page) index no_marks)) thread place (seen_by clock)

-- the bytes of a stretch have one more mark, and no other byte has
pub record Marks (old : Shadow) (span : Span) (thread place : ℕ) (new : Shadow) : Type 0 where
  pub inside : (byte : ℕ) → within span byte ≡ true → IsStepped (marks_at old byte) thread place (marks_at new byte)
  pub outside : (byte : ℕ) → within span byte ≡ false → (other : ℕ) → marks_at new byte other ≡ marks_at old byte other

-- the bytes that a step loads, and those of its instruction, have one more mark of reads, and those that it stores one of writes
pub record MarksAll (reads writes : Shadow) (step : Watched) (thread place : ℕ) (new_reads new_writes : Shadow) : Type 0 where
  pub between : Shadow
  pub loads : Marks reads (span_of step.loaded) thread place between
  pub fetches : Marks between (span_of step.code) thread place new_reads
  pub stores : Marks writes (span_of step.stored) thread place new_writes

abbrev pub no_bytes : Stretch
no_bytes = record { place = 0; count = 0 }

-- what a step accesses, but for the word of an atomic instruction
abbrev pub plainly : Watched → Watched
plainly step = if step.atomic.count == 0 then step else record step { loaded = no_bytes; stored = no_bytes }

-- the word of an atomic instruction alone
abbrev pub as_one : Watched → Watched
as_one step =
    if step.atomic.count == 0 then record step { loaded = no_bytes; code = no_bytes; stored = no_bytes } else record step { code = no_bytes }

-- the marks of what atomic instructions read and wrote: none as long as there were none
abbrev pub reads_of : Option Atomics → Shadow
reads_of None = []
reads_of (Some atomics) = atomics.reads.items

abbrev pub writes_of : Option Atomics → Shadow
writes_of None = []
writes_of (Some atomics) = atomics.writes.items

abbrev pub AreTables : Option Atomics → Type 0
AreTables None = Unit {0}
AreTables (Some atomics) = IsTable atomics.reads.items × IsTable atomics.writes.items

-- a mark at a byte that a clock does not know of
pub record IsHit (table : Shadow) (span : Span) (past : ClockOf) (mark byte : ℕ) : Type 0 where
  pub thread : ℕ
  pub at : within span byte ≡ true
  pub mark_is : mark ≡ marks_at table byte thread
  pub beyond : past thread < mark

-- this hit, or one at a higher byte, or at the same byte and earlier
abbrev pub NotBefore : Hit → (mark byte : ℕ) → Type 0
NotBefore hit mark byte = (hit.byte < byte) ⊎ ((hit.byte ≡ byte) × (mark ≤ hit.mark))

-- the first of these hits, if there is one
abbrev pub IsFirstOf : (ℕ → ℕ → Type 0) → Option Hit → Type 0
IsFirstOf P None = (mark byte : ℕ) → P mark byte → ⊥
IsFirstOf P (Some hit) = P hit.mark hit.byte × ((mark byte : ℕ) → P mark byte → NotBefore hit mark byte)

abbrev pub IsFirstHit : Shadow → Span → ClockOf → Option Hit → Type 0
IsFirstHit table span past = IsFirstOf (IsHit table span past)

-- a mark of a write where the step reads or writes, or a mark of a read where it writes
abbrev pub AnyHit : (reads writes : Shadow) → Watched → ClockOf → (mark byte : ℕ) → Type 0
AnyHit reads writes watched past mark byte =
    (IsHit writes (span_of watched.loaded) past mark byte ⊎ IsHit writes (span_of watched.code) past mark byte) ⊎ (IsHit writes (span_of watched.stored) past mark byte ⊎ IsHit reads (span_of watched.stored) past mark byte)

-- such a mark, or one of an atomic instruction where the step accesses more than the word of one
abbrev pub AnyConflict : (reads writes : Shadow) → Option Atomics → Watched → ClockOf → (mark byte : ℕ) → Type 0
AnyConflict reads writes atomics watched past mark byte =
    AnyHit reads writes watched past mark byte ⊎ AnyHit (reads_of atomics) (writes_of atomics) (plainly watched) past mark byte

-- no later than a hit, if there is one
abbrev pub NotLater : Option Hit → Option Hit → Type 0
NotLater best None = Unit {0}
NotLater None (Some hit) = ⊥
NotLater (Some best) (Some hit) = NotBefore best hit.mark hit.byte

pub record IsBetter (one other best : Option Hit) : Type 0 where
  pub either : (best ≡ one) ⊎ (best ≡ other)
  pub than_one : NotLater best one
  pub than_other : NotLater best other
