-- A pass of a lock page as the locks of a peer.
use Rattle.std.specs.Prelude.{◌≡◌, ◌⊎◌, ℕ, ◌==◌, ◌≤◌, if◌then◌else◌, min, ◌^◌, nat_lt, List, Contains, Some, None, slice_index}
use Rattle.atomic_table.specs.Seated.{TableId}
use Rattle.ro_lockpage.specs.Ranks.{asked, given, map_of, row_in}
use Rattle.ro_lockpage.specs.Pages.{PassOf}
use Rattle.ro_lockpage.specs.declared.words.Answer.{Answer}
use Rattle.ro_lockpage.specs.declared.words.Answer.TheVariants.{For, Passed}
use Rattle.ro_orders.specs.Copies.{Rows}
use Rattle.ro_peer.specs.declared.locks.Decision.{Decision}
use Rattle.ro_peer.specs.declared.locks.Decision.TheVariants.{Asker, Other}

-- a pass, and below which rank each mutex may be got by it, by the mutexes' numbers
pub record Asking : Type 0 where
  pub pass : PassOf
  pub ceilings : List ℕ

-- below which rank a mutex may be got: below none where it has no ceiling, and below 2 ^ 32, which is as far as ranks are counted
abbrev pub ceiling_of : (ceilings : List ℕ) → (number : ℕ) → ℕ
ceiling_of ceilings number = min (slice_index ceilings number) (2 ^ 32)

-- the rows of ranks below the ceilings
abbrev pub below : (ceilings : List ℕ) → Rows → Rows
below ceilings rows number rank = if nat_lt rank (ceiling_of ceilings number) then rows number rank else None

-- the rows that a pass knows, by the mutexes' numbers, and those of them that may be got
abbrev pub known_by : PassOf → Rows
known_by pass = map_of pass.known

abbrev pub rows_of : Asking → Rows
rows_of asking = below asking.ceilings (known_by asking.pass)

-- a pass won a rank of a mutex for a thread
abbrev pub won_by : PassOf → (number rank thread : ℕ) → Type 0
won_by pass number rank thread = map_of pass.won number rank ≡ Some thread

-- which pass of which page it is, and the ceilings
abbrev pub seat_of : Asking → TableId × ℕ × List ℕ
seat_of asking = (asking.pass.page, asking.pass.number, asking.ceilings)

-- what the page's answer is to the thread that asked
abbrev pub decision_of : Answer → (thread : ℕ) → Decision
decision_of (For other) thread = if other == thread then Asker else Other
decision_of Passed thread = Other

-- A rank of a mutex may not be got, or a step of the pass found in the rank's row that it was another's or has passed.
abbrev pub refused_by : Asking → (number rank thread : ℕ) → Type 0
refused_by asking number rank thread =
    (ceiling_of asking.ceilings number ≤ rank) ⊎ ((found : ℕ) × Contains asking.pass.asked (asked number rank found) × (decision_of (given (row_in rank found) thread) thread ≡ Other))
