-- How a word looks, by what follows its first two hyphens.
use Rattle.std.proofs.Common.{◌≡◌, ◌∙◌, Bool, true, false, not, ◌==◌, [], ◌∷◌, ◌++◌, length, Option, Some, None, refl, ap, arith, sym, inl, inr}
use Rattle.std.specs.Prelude.{option_and_then}
use Rattle.std.specs.Option.{option_map_or}
use Rattle.std.proofs.lemmas.Bool.{cases_Bool}
use Rattle.std.proofs.lemmas.Bool.Decides.{nat_tests}
use Rattle.clap.specs.Lexer.{long_of_rest}
use Rattle.clap.proofs.CutLemmas.{Lacks}
use Rattle.clap.proofs.LexerLemmas.{name_and_value-at, name_and_value-without}
use Rattle.ro_words.specs.Uses.{Text, after_dashes, is_argument, is_word}

-- what is_word says, by what follows `--`
abbrev looks : Option Text → Text → Bool
looks rest word = option_map_or (λ p. option_map_or is_argument p.1 true) (option_and_then long_of_rest rest) (is_argument word)

with_dashes : (word rest : Text) → after_dashes word ≡ Some rest → is_argument word ≡ false
with_dashes [] rest e = cc
with_dashes (x ∷ xs) rest e = elim (cases_Bool (x == 45)) [
  | inl same ↦ rw same refl
  | inr other ↦ let bad : None ≡ Some rest = rw other at e in cc
]

pub no_dashes : (word : Text) → after_dashes word ≡ None → is_word word ≡ is_argument word
no_dashes word e = ap (λ (o : Option Text). looks o word) e

abbrev of_parts : Text × Option Text → Bool
of_parts p = option_map_or is_argument p.1 true

looks_value : (xs ys word : Text) → Lacks 61 xs → looks (Some (xs ++ 61 ∷ ys)) word ≡ is_argument ys
looks_value [] ys word lacks = ap of_parts (name_and_value-at [] ys lacks)
looks_value (x ∷ xs) ys word lacks = ap of_parts (name_and_value-at (x ∷ xs) ys lacks)

pub with_value : (word rest xs ys : Text) → after_dashes word ≡ Some rest → rest ≡ xs ++ 61 ∷ ys → Lacks 61 xs → is_word word ≡ is_argument ys
with_value word rest xs ys e f lacks = ap (λ (o : Option Text). looks o word) (e ∙ ap (λ (t : Text). Some t) f) ∙ looks_value xs ys word lacks

looks_name : (rest word : Text) → is_argument word ≡ false → Lacks 61 rest → looks (Some rest) word ≡ not (length rest == 0)
looks_name [] word none lacks = none
looks_name (x ∷ xs) word none lacks =
    let some : (length (x ∷ xs) == 0) ≡ false = grind (arith, nat_tests) in
    ap of_parts (name_and_value-without (x ∷ xs) lacks) ∙ sym (ap not some)

pub with_name : (word rest : Text) → after_dashes word ≡ Some rest → Lacks 61 rest → is_word word ≡ not (length rest == 0)
with_name word rest e lacks = ap (λ (o : Option Text). looks o word) e ∙ looks_name rest word (with_dashes word rest e) lacks
