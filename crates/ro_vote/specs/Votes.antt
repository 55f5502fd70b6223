-- What the answer of a vote says.
use Rattle.std.specs.Prelude.{◌≡◌, ◌≢◌, ◌↔◌, ◌<◌, ◌≤◌, ◌*◌, ⊤, IsTrue, ℕ, List, [], ◌∷◌, Option, Some, None, length, count_by, slice_get}
use Rattle.ro_event.specs.Views.{View, same_view}
use Rattle.ro_journal.specs.Losers.{numbers}
use Rattle.ro_vote.specs.Numbers.{is_among}
use Rattle.ro_vote.specs.Verdict.{Verdict, Won, Split}
use Rattle.ro_vote.specs.declared.votes.Won.{Won as Winner}

-- the verdict that an answer stands for
abbrev pub verdict_by : Option Winner → Verdict
verdict_by (Some winner) = Won winner.won (numbers winner.lost)
verdict_by None = Split

-- no view is held by more than half
abbrev pub NoneIsHeld : List View → Type 0
NoneIsHeld views = (view : View) → 2 * count_by (same_view view) views ≤ length views

-- the replica of this number shows another view
abbrev pub ShowsAnother : List View → View → ℕ → Type 0
ShowsAnother views view number = (other : View) × (slice_get views number ≡ Some other) × (other ≢ view)

-- each number is higher than the one before it
abbrev pub IsRising : List ℕ → Type 0
IsRising [] = ⊤
IsRising (n ∷ []) = ⊤
IsRising (n ∷ m ∷ rest) = (n < m) × IsRising (m ∷ rest)

-- more than half of the views are equal: `won` is the lowest of these, and `lost` are all others, rising
pub record IsWonBy (views : List View) (won : ℕ) (lost : List ℕ) : Type 0 where
  pub view : View
  pub shown : slice_get views won ≡ Some view
  pub most : length views < 2 * count_by (same_view view) views
  pub lowest : (number : ℕ) → number < won → ShowsAnother views view number
  pub losers : (number : ℕ) → IsTrue (is_among lost number) ↔ ShowsAnother views view number
  pub rising : IsRising lost
