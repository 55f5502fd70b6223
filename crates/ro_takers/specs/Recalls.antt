-- Who got each mutex, and what is kept of that: how often each was got, and the threads of its last 1,024 ranks.
use Rattle.std.specs.Prelude.{◌≡◌, ℕ, ◌+◌, ◌*◌, ◌%◌, ◌<◌, ◌≤◌, List, [], length, map, slice_index, slice_index_or, refl}
use Rattle.std.specs.Coded.{Coded, code_by, coded×, coded_ℕ, coded_list}

-- what is kept
pub record Taken : Type 0 where
  pub ranks : List ℕ  -- how often each mutex was got
  pub rings : List ℕ  -- 1,024 places for each mutex, one mutex behind another
  pub room : ℕ  -- how many mutexes more there is memory for

abbrev pub coded_taken : Coded Taken
coded_taken =
    code_by (List ℕ × (List ℕ × ℕ)) (coded× (coded_list coded_ℕ) (coded× (coded_list coded_ℕ) coded_ℕ)) (λ t. (t.ranks, (t.rings, t.room))) (λ p. record { ranks = p.0; rings = p.1.0; room = p.1.1 }) (λ _. refl)

-- the threads that got a mutex, in order
abbrev pub list_of : (lists : List (List ℕ)) → (number : ℕ) → List ℕ
list_of lists number = slice_index_or lists number []

-- where the thread of a mutex's rank stands
abbrev pub place_of : (number rank : ℕ) → ℕ
place_of number rank = number * 1024 + rank % 1024

-- the last 1,024 of a mutex's threads stand at their places
abbrev pub StandIn : (rings : List ℕ) → (number : ℕ) → List ℕ → Type 0
StandIn rings number list = (rank : ℕ) → rank < length list → length list ≤ rank + 1024 → slice_index rings (place_of number rank) ≡ slice_index list rank

-- These threads got the mutexes, each list in order: the ranks are the lists' lengths, and the last of each list stand in the rings.
pub record Recalls (lists : List (List ℕ)) (takers : Taken) : Type 0 where
  pub ranks : takers.ranks ≡ map length lists
  pub last : (number : ℕ) → StandIn takers.rings number (list_of lists number)
