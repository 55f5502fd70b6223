-- Lines of plain words, split again.
use Rattle.std.proofs.Common.{◌≡◌, ◌<◌, ◌≤◌, ◌^◌, ℕ, true, false, ◌==◌, nat_lt, nat_le, List, [], ◌∷◌, ◌++◌, length, decimal, arith, refl, ap, ◌∙◌, append_assoc}
use Rattle.std.specs.List.{All, list_all}
use Rattle.std.specs.Char.{is_ascii_digit}
use Rattle.std.proofs.lemmas.Bool.{and_parts, and_from, ltb-true, leb-true, lt-ltb, ne_eqb}
use Rattle.std.proofs.lemmas.List.Elements.{All-nil, All-cons, All-append}
use Rattle.std.proofs.lemmas.List.Splits.{slice_split_none, slice_split_at}
use Rattle.std.proofs.lemmas.Fmt.{digits_decimal}
use Rattle.ro_text.specs.Numbers.{are_digits}
use Rattle.ro_text.specs.Lines.{spaced, line_text, is_plain, words_of, parts_of}
use Rattle.ro_text.proofs.Spellings.{model}

-- no byte of a plain word is the space or the line feed
free_of : (byte : ℕ) → byte ≤ 32 → (word : List ℕ) → is_plain word ≡ true → All (λ b. (b == byte) ≡ false) word
free_of byte low [] h = All-nil (λ b. (b == byte) ≡ false)
free_of byte low (b ∷ word) h =
    let parts = and_parts (nat_lt 32 b) (is_plain word) h in
    All-cons (λ c. (c == byte) ≡ false) b word (ne_eqb b byte (omega (arith, ltb-true 32 b parts.0))) (free_of byte low word parts.1)

pub words_back : (words : List (List ℕ)) → 0 < length words → list_all is_plain words ≡ true → words_of (spaced words) ≡ words
words_back [] some h = absurd (omega (arith, some))
words_back (word ∷ []) some h = slice_split_none (λ b. b == 32) word (free_of 32 (omega arith) word (and_parts (is_plain word) true h).0)
words_back (word ∷ next ∷ words) some h =
    let parts = and_parts (is_plain word) (list_all is_plain (next ∷ words)) h in
    slice_split_at (λ b. b == 32) word 32 (spaced (next ∷ words)) (free_of 32 (omega arith) word parts.0) refl
    ∙ ap (λ rest. word ∷ rest) (words_back (next ∷ words) (omega arith) parts.1)

unbroken : (words : List (List ℕ)) → list_all is_plain words ≡ true → All (λ b. (b == 10) ≡ false) (spaced words)
unbroken [] h = All-nil (λ b. (b == 10) ≡ false)
unbroken (word ∷ []) h = free_of 10 (omega arith) word (and_parts (is_plain word) true h).0
unbroken (word ∷ next ∷ words) h =
    let P = λ (b : ℕ). (b == 10) ≡ false in
    let parts = and_parts (is_plain word) (list_all is_plain (next ∷ words)) h in
    All-append P word (32 ∷ spaced (next ∷ words)) (free_of 10 (omega arith) word parts.0) (All-cons P 32 (spaced (next ∷ words)) refl (unbroken (next ∷ words) parts.1))

pub line_back : (words : List (List ℕ)) (text : List ℕ) → list_all is_plain words ≡ true → parts_of (line_text words ++ text) ≡ spaced words ∷ parts_of text
line_back words text h =
    ap parts_of (append_assoc (spaced words) (10 ∷ []) text)
    ∙ slice_split_at (λ b. b == 10) (spaced words) 10 text (unbroken words h) refl

digits_plain : (digits : List ℕ) → are_digits digits ≡ true → is_plain digits ≡ true
digits_plain [] d = refl
digits_plain (digit ∷ digits) d =
    let parts = and_parts (is_ascii_digit digit) (are_digits digits) d in
    let low = and_parts (nat_le 48 digit) (nat_le digit 57) parts.0 in
    and_from (nat_lt 32 digit) (is_plain digits) (lt-ltb 32 digit (omega (arith, leb-true 48 digit low.0))) (digits_plain digits parts.1)

-- the spelling of a number is a plain word
pub number_plain : (number : ℕ) → number < 2 ^ 64 → is_plain (decimal number) ≡ true
number_plain number small = digits_plain (decimal number) (digits_decimal model number small)
