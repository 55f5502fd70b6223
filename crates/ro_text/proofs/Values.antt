-- The values of digits.
use Rattle.std.proofs.Common.{ℕ, ◌+◌, ◌*◌, ◌-◌, ◌≤◌, ◌<◌, List, [], ◌∷◌, length, get_or, arith}
use Rattle.ro_text.specs.Numbers.{value_from}

value_grows : (number : ℕ) (digits : List ℕ) → number ≤ value_from number digits
value_grows number [] = omega arith
value_grows number (digit ∷ digits) = omega (arith, value_grows (10 * number + (digit - 48)) digits)

-- a number is no less than what its first digit makes it
pub value_more : (limit number : ℕ) (word : List ℕ) → 0 < length word → limit ≤ 10 * number + (get_or word 0 0 - 48) → limit ≤ value_from number word
value_more limit number [] some h = absurd (omega (arith, some))
value_more limit number (digit ∷ digits) some h = omega (arith, h, value_grows (10 * number + (digit - 48)) digits)
