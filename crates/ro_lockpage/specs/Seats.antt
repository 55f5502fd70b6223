-- The rule of the table: what each pass knows stands among the decided ranks, each of which was won by one pass, and each word is that of the newest of its ranks.
use Rattle.std.specs.Prelude.{◌≡◌, ◌≢◌, ◌⊎◌, ℕ, ◌+◌, ◌*◌, ◌%◌, ◌<◌, ◌≤◌, ◌==◌, if◌then◌else◌, List, [], ◌∷◌, ◌++◌, length, Some}
use mathlib.Core.Option.{some}
use lib.ListN.{get_elem?}
use Rattle.atomic_table.specs.Table.{State, Step, Me}
use Rattle.ro_lockpage.specs.Ranks.{Ranks, Decided, decided, Asked, asked, map_of, told, thread_in, row_in, word_of, word_at, given, won_then, steps, of_rank, once, Since}
use Rattle.ro_lockpage.specs.Hands.{Hand, first_of}
use Rattle.ro_lockpage.specs.declared.words.Answer.TheVariants.{For, Passed}
use Rattle.ro_lockpage.specs.declared.seats.View.{View}
use Rattle.ro_lockpage.specs.declared.seats.Shape.{Shape}

abbrev pub holding : List Hand → View
holding hands = record { hands = hands }

-- what the rule says of one hand of the seat id
pub record Fits (ranks : Ranks) (word : ℕ → ℕ → ℕ) (winner : ℕ → ℕ → ℕ) (owner : ℕ → ℕ) (id : ℕ) (h : Hand) : Type 0 where
  pub number : h.number < 8
  pub seat : owner h.number ≡ id
  pub known : (m r t : ℕ) → map_of h.known m r ≡ Some t → ranks m r ≡ Some t
  pub won : (m r : ℕ) → of_rank m r h.won ≡ (if winner m r == h.number then once m r (ranks m r) else [])
  pub since : Since word h.asked

abbrev pub Each : (Hand → Type 0) → List Hand → Type 0
Each P [] = Unit {0}
Each P (h ∷ hs) = P h × Each P hs

-- Each word is 0, where none of its ranks was decided, or tells of the newest of them that was: no decided rank is newer than its word, a word's own rank is decided for the word's thread, and a word that isn't 0 is of one of its ranks
pub record Newest (rows : ℕ) (ranks : Ranks) (words : List ℕ) : Type 0 where
  pub old : (m r t : ℕ) → ranks m r ≡ Some t → (t < 16) × (word_of r t ≤ word_at rows words m r)
  pub own : (m r t : ℕ) → t < 16 → word_at rows words m r ≡ word_of r t → ranks m r ≡ Some t
  pub some : (m r : ℕ) → word_at rows words m r ≢ 0 → (r' : ℕ) × (t : ℕ) × (t < 16) × (r' % rows ≡ r % rows) × (word_at rows words m r ≡ word_of r' t)

-- There are so many words for each mutex, and each is that of the newest of its decided ranks. What each pass knows is decided so, and each decided rank is in the `won` of the pass that its winner names, once
pub record Kept (c : Shape) (words : List ℕ) (views : List View) : Type 0 where
  pub ranks : Ranks
  pub owner : ℕ → ℕ
  pub winner : ℕ → ℕ → ℕ
  pub wide : length words ≡ c.mutexes * c.rows
  pub newest : Newest c.rows ranks words
  pub below : (m r : ℕ) → winner m r < 8
  pub fits : (id : ℕ) (v : View) → get_elem? views id ≡ some v → Each (Fits ranks (word_at c.rows words) winner owner id) v.hands

abbrev pub Rule : Shape → State (Unit {0}) View → Type 0
Rule c s = Kept c s.words s.views

abbrev pub Sat : Type 0
Sat = Me (Unit {0}) View

-- a hand that decided a rank
abbrev pub after_win : Hand → ℕ → ℕ → ℕ → ℕ → Hand
after_win h m r t found = record { number = h.number; known = decided m r t ∷ h.known; won = h.won ++ decided m r t ∷ []; asked = h.asked ++ asked m r found ∷ [] }

-- a hand after a look
abbrev pub after_look : Hand → ℕ → ℕ → ℕ → Hand
after_look h m r found = record { number = h.number; known = told h.known m r (thread_in (row_in r found)); won = h.won; asked = h.asked ++ asked m r found ∷ [] }

-- a hand after an exchange for a rank in a word that was this
abbrev pub after_exchange : Hand → ℕ → ℕ → ℕ → ℕ → ℕ → Hand
after_exchange h m r t was found = if found == was then after_win h m r t found else after_look h m r found

-- a hand after steps that found older words, and a look
abbrev pub after_looks : Hand → ℕ → ℕ → List ℕ → ℕ → Hand
after_looks h m r older found = record { number = h.number; known = told h.known m r (thread_in (row_in r found)); won = h.won; asked = h.asked ++ steps m r (older ++ found ∷ []) }

-- a hand after a decide, the steps of which found older words and this one at the end
abbrev pub after_decide : Hand → ℕ → ℕ → ℕ → List ℕ → ℕ → Hand
after_decide h m r t older found = record { number = h.number; known = told h.known m r (thread_in (Some (given (row_in r found) t))); won = won_then h.won (row_in r found) m r t; asked = h.asked ++ steps m r (older ++ found ∷ []) }

-- a word tells the thread that is known for the rank, or that it has passed
abbrev pub Keeps : List Decided → ℕ → ℕ → ℕ → Type 0
Keeps known m r found = (t : ℕ) → map_of known m r ≡ Some t → (row_in r found ≡ Some (For t)) ⊎ (row_in r found ≡ Some Passed)

-- what a step shows: of a known rank the word keeps the thread as long as it tells of it, and it is no less than what the step before found
pub record Shows (h : Hand) (m r found : ℕ) : Type 0 where
  pub knew : Keeps h.known m r found
  pub since : (before : List Asked) (was : ℕ) → h.asked ≡ before ++ asked m r was ∷ [] → was ≤ found

abbrev pub Exchanges : ℕ → ℕ → ℕ → ℕ → Step (Unit {0}) → Sat → ℕ → Sat → Type 0
Exchanges m r t was st me found me' = Shows (first_of me.0.hands) m r found × (me'.0 ≡ holding (after_exchange (first_of me.0.hands) m r t was found ∷ [])) × (me'.1 ≡ me.1)

abbrev pub Looks : ℕ → ℕ → Step (Unit {0}) → Sat → ℕ → Sat → Type 0
Looks m r st me found me' = Shows (first_of me.0.hands) m r found × (me'.0 ≡ holding (after_look (first_of me.0.hands) m r found ∷ [])) × (me'.1 ≡ me.1)
