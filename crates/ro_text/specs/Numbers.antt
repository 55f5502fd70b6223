-- Numbers in decimal, each of which has one spelling.
use Rattle.std.specs.Prelude.{ℕ, ◌+◌, ◌*◌, ◌-◌, Bool, false, ◌&&◌, ◌||◌, List, [], ◌∷◌, nat_le, not, ◌==◌, length}
use Rattle.std.specs.List.{list_all}
use Rattle.std.specs.Char.{is_ascii_digit}

abbrev pub are_digits : List ℕ → Bool
are_digits word = list_all is_ascii_digit word

-- the word spells a number: digits, and no leading zero
abbrev pub is_number : List ℕ → Bool
is_number [] = false
is_number (digit ∷ digits) = are_digits (digit ∷ digits) && (not (digit == 48) || (length digits == 0))

-- the number that digits give behind those of another
abbrev pub value_from : ℕ → List ℕ → ℕ
value_from number [] = number
value_from number (digit ∷ digits) = value_from (10 * number + (digit - 48)) digits

-- the number that a word spells
abbrev pub value_of : List ℕ → ℕ
value_of digits = value_from 0 digits

abbrev pub within : (least most value : ℕ) → Bool
within least most value = nat_le least value && nat_le value most
