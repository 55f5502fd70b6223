-- Numbers and their spellings.
use Rattle.std.proofs.Common.{zero, suc, ◌≡◌, ◌^◌, ◌<◌, ℕ, true, false, ◌||◌, not, ◌==◌, List, [], ◌∷◌, length, get_or, decimal, arith, refl, ap, rules}
use Rattle.std.proofs.lemmas.Bool.{and_parts, eqb-true, ne_eqb, eq-eqb}
use Rattle.std.proofs.lemmas.Str.Parse.{IsNumeralModel, numerals_by_fold}
use Rattle.std.proofs.lemmas.Fmt.{digits_decimal, digits_value-decimal, decimal-digits_value, decimal_nonempty, first_decimal, decimal_digit}
use Rattle.ro_text.specs.Numbers.{are_digits, is_number, value_from, value_of}

pub model : IsNumeralModel (λ ds. are_digits ds ≡ true) (value_from 0)
model = numerals_by_fold _ (search rules) value_from (search rules)

spelled : (word : List ℕ) → are_digits word ≡ true → 0 < length word → 48 < get_or word 0 0 → is_number word ≡ true
spelled [] d some high = absurd (omega (arith, some))
spelled (digit ∷ digits) d some high =
    let other : (digit == 48) ≡ false = ne_eqb digit 48 (omega (arith, high)) in
    rw (d, other) refl

pub number_spelled : (number : ℕ) → number < 2 ^ 64 → is_number (decimal number) ≡ true
number_spelled zero small = ap is_number (decimal_digit 0 (omega arith))
number_spelled (suc n) small = spelled (decimal (suc n)) (digits_decimal model (suc n) small) (decimal_nonempty (suc n) small) (first_decimal (suc n) (omega arith) small)

pub number_value : (number : ℕ) → number < 2 ^ 64 → value_of (decimal number) ≡ number
number_value number small = digits_value-decimal model number small

-- a word that begins with a zero has no other digit
alone : (digit : ℕ) (digits : List ℕ) → (not (digit == 48) || (length digits == 0)) ≡ true → digit ≡ 48 → suc (length digits) ≡ 1
alone digit digits h e =
    let zero : (digit == 48) ≡ true = eq-eqb digit 48 e in
    let none : (length digits == 0) ≡ true = rw zero at h in
    omega (arith, eqb-true (length digits) 0 none)

pub number_once : (word : List ℕ) → is_number word ≡ true → value_of word < 2 ^ 64 → decimal (value_of word) ≡ word
number_once [] n small = absurd (cc)
number_once (digit ∷ digits) n small =
    let parts = and_parts (are_digits (digit ∷ digits)) (not (digit == 48) || (length digits == 0)) n in
    decimal-digits_value model (digit ∷ digits) parts.0 (omega arith) (alone digit digits parts.1) small
