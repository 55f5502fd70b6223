-- Who got which rank of a mutex.
use Rattle.std.specs.Prelude.{◌≡◌, ◌&&◌, ◌==◌, ℕ, Bool, List, [], ◌∷◌, ◌++◌, Some, None, if◌then◌else◌}
use Rattle.ro_orders.specs.Copies.{Rows}
use Rattle.ro_audit.specs.declared.ranks.Rank.{Rank}

-- the thread that got a rank of a mutex, by the mutex's number
abbrev pub rows_in : List (Rank × ℕ) → Rows
rows_in [] number rank = None
rows_in (entry ∷ entries) number rank =
    if (entry.0.number == number) && (entry.0.rank == rank) then Some entry.1 else rows_in entries number rank

-- the thread got the rank
abbrev pub won_in : List (Rank × ℕ) → (number rank thread : ℕ) → Type 0
won_in entries number rank thread = rows_in entries number rank ≡ Some thread

-- with the rank as the thread's, behind all others, if it is given to it
abbrev pub with_taker : List (Rank × ℕ) → Rank → (thread : ℕ) → (given : Bool) → List (Rank × ℕ)
with_taker entries at thread given = if given then entries ++ (at, thread) ∷ [] else entries
