-- The history: the journal with the number of the driver beside each entry.
use Rattle.std.specs.Prelude.{◌≢◌, ℕ, ◌+◌, ◌<◌, if◌then◌else◌, ◌==◌, List, [], ◌∷◌, map}
use Rattle.ro_journal.specs.declared.Entry.{Entry}
use Rattle.ro_journal.specs.declared.Entry.TheVariants.{Put, Part}
use Rattle.ro_legal.specs.Laws.{Names}

pub record Turned : Type 0 where
  pub by : ℕ
  pub entry : Entry

abbrev pub turned : ℕ → Entry → Turned
turned by entry = record { by = by; entry = entry }

abbrev pub journal_of : List Turned → List Entry
journal_of history = map (λ t. t.entry) history

-- the places from k on that bear the number d
abbrev pub places_from : ℕ → ℕ → List Turned → List ℕ
places_from k d [] = []
places_from k d (t ∷ ts) = if t.by == d then k ∷ places_from (k + 1) d ts else places_from (k + 1) d ts

-- the places of the history that bear the number d
abbrev pub places : ℕ → List Turned → List ℕ
places d history = places_from 0 d history

-- each entry of a take or a put names the driver that appended it
abbrev pub Owned : List Turned → Type 0
Owned [] = Unit {0}
Owned (t ∷ ts) = Names t.by t.entry × Owned ts

-- each entry bears a number that was given
abbrev pub AreWithin : ℕ → List Turned → Type 0
AreWithin given [] = Unit {0}
AreWithin given (t ∷ ts) = (t.by < given) × AreWithin given ts

-- no entry bears the number
abbrev pub NoneBy : ℕ → List Turned → Type 0
NoneBy number [] = Unit {0}
NoneBy number (t ∷ ts) = (t.by ≢ number) × NoneBy number ts

-- no lease came back by an entry
abbrev pub BringsNone : Entry → Type 0
BringsNone (Put lease count hit) = ⊥
BringsNone (Part lease count hit) = ⊥
BringsNone entry = Unit {0}
