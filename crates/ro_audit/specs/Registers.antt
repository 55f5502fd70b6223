-- Registers that are compared.
use Rattle.std.specs.Prelude.{◌≡◌, ◌≢◌, ◌↔◌, ◌<◌, ◌+◌, ◌/◌, ◌%◌, ◌^◌, ℕ, List, slice_get}

-- of a set of registers: xn is among them, as bit n says
abbrev pub IsMarked : (registers number : ℕ) → Type 0
IsMarked registers number = registers / 2 ^ number % 2 ≡ 1

-- of x1 to x31 just those are among them whose values differ
abbrev pub AreUnequal : (registers : ℕ) → (one other : List ℕ) → Type 0
AreUnequal registers one other = (place : ℕ) → place < 31 → IsMarked registers (place + 1) ↔ (slice_get one place ≢ slice_get other place)
