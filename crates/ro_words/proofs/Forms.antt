-- How a word looks that may stand in a command.
use Rattle.std.proofs.Common.{◌≡◌, ◌∙◌, ℕ, true, false, ◌==◌, [], ◌∷◌, refl, ap, subst, inl, inr}
use Rattle.std.proofs.lemmas.Bool.{cases_Bool, eqb-true}
use Rattle.clap.specs.Walk.{Text}
use Rattle.ro_words.specs.Uses.{is_word}

-- ---- how a word looks

pub data Form (word : Text) : Type 0 where
  argument : (x : ℕ) (xs : Text) → word ≡ x ∷ xs → (x == 45) ≡ false → Form word
  optional : (y : ℕ) (ys : Text) → word ≡ 45 ∷ 45 ∷ y ∷ ys → Form word

form_of_two : (x y : ℕ) (ys : Text) → x ≡ 45 → y ≡ 45 → is_word (x ∷ y ∷ ys) ≡ true → Form (x ∷ y ∷ ys)
form_of_two x y [] e f is =
    let bad : is_word (45 ∷ 45 ∷ []) ≡ true = subst (λ (n : ℕ). is_word (45 ∷ n ∷ []) ≡ true) f (subst (λ (n : ℕ). is_word (n ∷ y ∷ []) ≡ true) e is) in cc
form_of_two x y (z ∷ zs) e f is = optional z zs (ap (λ (n : ℕ). n ∷ y ∷ z ∷ zs) e ∙ ap (λ (n : ℕ). 45 ∷ n ∷ z ∷ zs) f)

form_of_one : (x : ℕ) (xs : Text) → x ≡ 45 → is_word (x ∷ xs) ≡ true → Form (x ∷ xs)
form_of_one x [] e is = let bad : is_word (45 ∷ []) ≡ true = subst (λ (n : ℕ). is_word (n ∷ []) ≡ true) e is in cc
form_of_one x (y ∷ ys) e is = elim (cases_Bool (y == 45)) [
  | inl same ↦ form_of_two x y ys e (eqb-true y 45 same) is
  | inr other ↦
      let at_45 : is_word (45 ∷ y ∷ ys) ≡ true = subst (λ (n : ℕ). is_word (n ∷ y ∷ ys) ≡ true) e is in
      let bad : false ≡ true = rw other at at_45 in cc
]

pub form : (word : Text) → is_word word ≡ true → Form word
form [] is = cc
form (x ∷ xs) is = elim (cases_Bool (x == 45)) [
  | inl same ↦ form_of_one x xs (eqb-true x 45 same) is
  | inr other ↦ argument x xs refl other
]
