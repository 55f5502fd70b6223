-- Lists of uses in which no name stands twice.
use Rattle.std.proofs.Common.{◌≡◌, ◌∙◌, Bool, true, false, not, ◌&&◌, ◌||◌, List, [], ◌∷◌, ◌++◌, refl, sym, inl, inr, codes}
use Rattle.std.specs.Str.{bytes_eq}
use Rattle.std.specs.List.{list_all, list_any}
use Rattle.std.proofs.lemmas.Bool.{cases_Bool, or_parts}
use Rattle.std.proofs.lemmas.List.Folds.{list_all-append, list_any-append}
use Rattle.std.proofs.lemmas.Slice.Eq.{bytes_eq-Decides}
use Rattle.ro_words.specs.Uses.{Text, Use, is_once, is_used}

-- the name is a flag's
abbrev pub is_of : List Text → Text → Bool
is_of flags name = list_any (λ f. bytes_eq f name) flags

-- a flag's text is `true`
abbrev pub flag_text : List Text → Use → Bool
flag_text flags u = not (is_of flags u.0) || bytes_eq u.1 (codes "true")

pub or_true : (b : Bool) → (b || true) ≡ true
or_true true = refl
or_true false = refl

pub and_false : (b : Bool) → (b && false) ≡ false
and_false true = refl
and_false false = refl

pub or_false : (b : Bool) → (b || false) ≡ b
or_false true = refl
or_false false = refl

pub same_twice : (a b : Text) → bytes_eq a b ≡ true → bytes_eq b a ≡ true
same_twice a b same = (bytes_eq-Decides b a).1 (sym ((bytes_eq-Decides a b).0 same))

pub differ_twice : (a b : Text) → bytes_eq a b ≡ false → bytes_eq b a ≡ false
differ_twice a b differ = elim (cases_Bool (bytes_eq b a)) [
  | inl same ↦ let bad : true ≡ false = sym (same_twice b a same) ∙ differ in cc
  | inr other ↦ other
]

pub used-append : (name : Text) (us vs : List Use) → is_used name (us ++ vs) ≡ (is_used name us || is_used name vs)
used-append name us vs = list_any-append (λ u. bytes_eq u.0 name) us vs

-- a name that was used, used again
pub twice : (us vs : List Use) (u : Use) → is_used u.0 us ≡ true → is_once (us ++ u ∷ vs) ≡ false
twice [] vs u used = cc
twice (w ∷ ws) vs u used = elim (cases_Bool (bytes_eq w.0 u.0)) [
  | inl same ↦
      let here : is_used w.0 (u ∷ vs) ≡ true = rw (same_twice w.0 u.0 same) refl in
      let again : is_used w.0 (ws ++ u ∷ vs) ≡ true = used-append w.0 ws (u ∷ vs) ∙ rw here (or_true (is_used w.0 ws)) in
      rw again refl
  | inr other ↦
      let later : is_used u.0 ws ≡ true = rw other at used in
      rw (twice ws vs u later) (and_false (not (is_used w.0 (ws ++ u ∷ vs))))
]

pub and_parts : (a b : Bool) → (a && b) ≡ true → (a ≡ true) × (b ≡ true)
and_parts true b e = (refl, e)
and_parts false b e = cc

pub not_true : (b : Bool) → not b ≡ true → b ≡ false
not_true true e = cc
not_true false e = refl

pub once_more : (us : List Use) (u : Use) → is_once us ≡ true → is_used u.0 us ≡ false → is_once (us ++ u ∷ []) ≡ true
once_more [] u once unused = refl
once_more (w ∷ ws) u once unused =
    let parts = and_parts (not (is_used w.0 ws)) (is_once ws) once in
    let others = or_parts (bytes_eq w.0 u.0) (is_used u.0 ws) unused in
    let here : is_used w.0 (ws ++ u ∷ []) ≡ false =
    used-append w.0 ws (u ∷ []) ∙ rw (not_true (is_used w.0 ws) parts.0, differ_twice w.0 u.0 others.0) refl in
    rw (here, once_more ws u parts.1 others.1) refl

pub flags_more : (flags : List Text) (us : List Use) (u : Use) → list_all (flag_text flags) us ≡ true → flag_text flags u ≡ true
    → list_all (flag_text flags) (us ++ u ∷ []) ≡ true
flags_more flags us u all here = list_all-append (flag_text flags) us (u ∷ []) ∙ rw (all, here) refl

pub used_more : (name : Text) (us : List Use) (u : Use) → bytes_eq u.0 name ≡ false → is_used name (us ++ u ∷ []) ≡ is_used name us
used_more name us u other = used-append name us (u ∷ []) ∙ rw other (or_false (is_used name us))

pub used_last : (us : List Use) (u : Use) → is_used u.0 (us ++ u ∷ []) ≡ true
used_last us u = used-append u.0 us (u ∷ []) ∙ rw ((bytes_eq-Decides u.0 u.0).1 refl) (or_true (is_used u.0 us))
