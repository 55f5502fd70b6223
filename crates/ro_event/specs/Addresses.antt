-- The addresses of the call table.
use Rattle.std.specs.Prelude.{ℕ, ◌≡◌, ◌/◌, ◌%◌, ◌^◌, ◌==◌, Bool, true, false, List, Option, Some, None}
use Rattle.std.specs.List.{list_any}

-- the addresses of the functions, in their order; none where the program lacks one
pub record Addresses : Type 0 where
  pub addresses : List (Option ℕ)

-- whether a place is the address
abbrev pub is_at : ℕ → Option ℕ → Bool
is_at pc None = false
is_at pc (Some address) = address == pc

-- the bit of each address is set
abbrev pub IsFilter : List (Option ℕ) → ℕ → Type 0
IsFilter addresses filter = (pc : ℕ) → list_any (is_at pc) addresses ≡ true → filter / 2 ^ (pc / 4 % 64) % 2 ≡ 1
