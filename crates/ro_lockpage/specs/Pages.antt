-- A page, its passes and what is left of it, as contracts see them.
use Rattle.std.specs.Prelude.{◌≡◌, ◌<◌, ◌≤◌, ◌+◌, ℕ, zero, suc, List, [], ◌∷◌, ◌++◌, Option, Some}
use Rattle.atomic_table.specs.Seated.{TableId}
use Rattle.atomic_table.specs.declared.shared.Seat.{Seat}
use Rattle.ro_lockpage.specs.Ranks.{Ranks, Decided, Asked, map_of, row_in, word_at, Since}
use Rattle.ro_lockpage.specs.Hands.{Hand, first_of}
use Rattle.ro_lockpage.specs.declared.words.Answer.{Answer}
use Rattle.ro_lockpage.specs.declared.seats.View.{View}

-- a page: which one it is, and how many mutexes it has and rows for each
pub record PageOf : Type 0 where
  pub name : TableId
  pub mutexes : ℕ
  pub rows : ℕ

-- a pass: its page and number, the ranks whose thread it was told, the last first, the ranks that it decided, and what each of its steps found
pub record PassOf : Type 0 where
  pub page : TableId
  pub number : ℕ
  pub known : List Decided
  pub won : List Decided
  pub asked : List Asked

-- a page that is closed
pub record ClosedOf : Type 0 where
  pub mutexes : ℕ
  pub rows : ℕ
  pub words : List ℕ

-- what the word of each rank tells of it
abbrev pub row_of : ClosedOf → ℕ → ℕ → Option Answer
row_of c m r = row_in r (word_at c.rows c.words m r)

abbrev pub HasShape : ℕ → ℕ → Type 0
HasShape mutexes rows = (0 < mutexes) × (mutexes ≤ 256) × (0 < rows) × (rows ≤ 1024)

abbrev pub PassSeat : Type 0
PassSeat = Seat (Unit {0}) View

abbrev pub seen_of : TableId → Hand → PassOf
seen_of page h = record { page = page; number = h.number; known = h.known; won = h.won; asked = h.asked }

-- a seat with one hand
abbrev pub IsPassSeat : ℕ → PassSeat → Type 0
IsPassSeat number s = (s.me.1 ≡ []) × (s.me.0.hands ≡ first_of s.me.0.hands ∷ []) × ((first_of s.me.0.hands).number ≡ number)

-- a pass that knows nothing and won nothing
abbrev pub fresh_pass : TableId → ℕ → PassOf
fresh_pass page number = record { page = page; number = number; known = []; won = []; asked = [] }

-- the passes with the numbers below n
abbrev pub fresh_passes : TableId → ℕ → List PassOf
fresh_passes page zero = []
fresh_passes page (suc n) = fresh_passes page n ++ fresh_pass page n ∷ []

-- passes of one page, with the numbers from n on
abbrev pub AreFrom : TableId → ℕ → List PassOf → Type 0
AreFrom page n [] = Unit {0}
AreFrom page n (p ∷ ps) = (p.page ≡ page) × (p.number ≡ n) × AreFrom page (n + 1) ps

-- each rank that is known was decided for that thread
abbrev pub Agrees : List Decided → Ranks → Type 0
Agrees known ranks = (m r t : ℕ) → map_of known m r ≡ Some t → ranks m r ≡ Some t

abbrev pub AllAgree : Ranks → List PassOf → Type 0
AllAgree ranks [] = Unit {0}
AllAgree ranks (p ∷ ps) = Agrees p.known ranks × AllAgree ranks ps

-- all that was won by one pass after the other
abbrev pub all_won : List PassOf → List Decided
all_won [] = []
all_won (p ∷ ps) = p.won ++ all_won ps

-- the thread for which each rank was decided: that with which a pass won it
abbrev pub history : List PassOf → Ranks
history ps = map_of (all_won ps)

-- what each step of each pass found is no more than the word in the end
abbrev pub AllSince : ClosedOf → List PassOf → Type 0
AllSince c [] = Unit {0}
AllSince c (p ∷ ps) = Since (word_at c.rows c.words) p.asked × AllSince c ps
