-- A few numbers, found one after another.
use Rattle.std.specs.Prelude.{◌≡◌, ℕ, ◌+◌, ◌<◌, ◌≤◌, false, List, [], ◌∷◌, ◌++◌, length, Option, Some, None, slice_index_or, option_to_list, IfSome, is_some}
use Rattle.std.specs.List.{slice_get}
use Rattle.std.proofs.Common.{refl, sym, ap, ◌∙◌, subst, inl, inr, arith, length-append}
use Rattle.std.specs.Ordering.{nat_cmp}
use Rattle.std.specs.FinMap as map
use Rattle.std.specs.FinMap.{FinMap}
use Rattle.std.proofs.lemmas.Bool.{cases_eq, true≢false}
use Rattle.std.proofs.lemmas.Option.{get_or_from_slice_get, slice_get-get_or, slice_get_within}
use Rattle.ro_pages.specs.Directories.{IsEntry, AreOnce, is_listed}
use Rattle.ro_pages.specs.Held.{has_page}
use Rattle.ro_pages.proofs.Entries.{got_cases, got_before, listed_at, unlisted}

-- the number does not stand at these places
abbrev pub NotBefore : List ℕ → (page i : ℕ) → Type 0
NotBefore ns page i = (other : ℕ) → other < i → slice_get ns other ≡ Some page → ⊥

pub one_past : (ns : List ℕ) (page i : ℕ) → NotBefore ns page i → (slice_index_or ns i 0 ≡ page → ⊥) → NotBefore ns page (i + 1)
one_past ns page i h apart k less e = elim (cases_eq k i) [
  | inl same ↦ apart (get_or_from_slice_get ns i page 0 (ap (slice_get ns) (sym same) ∙ e))
  | inr other ↦ h k (omega arith) e
]

pub stands_at : (ns : List ℕ) (page i : ℕ) → i < length ns → slice_index_or ns i 0 ≡ page → slice_get ns i ≡ Some page
stands_at ns page i within is = slice_get-get_or ns i 0 within ∙ ap Some is

-- where it was looked for it stands, or nowhere
pub entry_is : (ns : List ℕ) (page place : ℕ) → AreOnce ns → place ≤ length ns → (place < length ns → slice_get ns place ≡ Some page) → NotBefore ns page place → IsEntry ns page place
entry_is ns page place once within found before = record {
  found = found;
  only = λ other e.
      let inside : other < length ns = slice_get_within ns other page e in
      elim (cases_eq place (length ns)) [
        | inl all ↦ absurd (before other (omega arith) e)
        | inr some ↦ once other place page e (found (omega arith))
      ];
}

-- a number that stands nowhere is added
pub once_more : (ns : List ℕ) (page : ℕ) → AreOnce ns → is_listed ns page ≡ false → AreOnce (ns ++ page ∷ [])
once_more ns page once new i j q e f = elim (got_cases ns page i q e) [
  | inl old ↦ elim (got_cases ns page j q f) [
    | inl too ↦ once i j q old too
    | inr last ↦ absurd (true≢false (sym (listed_at ns i q old) ∙ ap (is_listed ns) last.1 ∙ new))
  ]
  | inr last ↦ elim (got_cases ns page j q f) [
    | inl old ↦ absurd (true≢false (sym (listed_at ns j q old) ∙ ap (is_listed ns) last.1 ∙ new))
    | inr too ↦ last.0 ∙ sym too.0
  ]
]

-- the last one is taken away
pub once_less : (all ns : List ℕ) (o : Option ℕ) → all ≡ ns ++ option_to_list o → AreOnce all → AreOnce ns
once_less all ns None is once i j q e f = let all_is : all ≡ ns = is ∙ append_none ns in subst AreOnce all_is once i j q e f
  where
    append_none : (xs : List ℕ) → xs ++ [] ≡ xs
    append_none [] = refl
    append_none (x ∷ xs) = ap (λ (ys : List ℕ). x ∷ ys) (append_none xs)
once_less all ns (Some page) is once i j q e f =
    once i j q (ap (λ (xs : List ℕ). slice_get xs i) is ∙ got_before ns page i q e) (ap (λ (xs : List ℕ). slice_get xs j) is ∙ got_before ns page j q f)

-- ---- the last number

pub in_some : {P Q : ℕ → Type 0} (o : Option ℕ) → ((n : ℕ) → P n → Q n) → IfSome o P → IfSome o Q
in_some None f h = h
in_some (Some n) f h = f n h

pub last_is : (xs ys : List ℕ) (a b : ℕ) → xs ++ a ∷ [] ≡ ys ++ b ∷ [] → a ≡ b
last_is [] [] a b e = cc
last_is [] (y ∷ ys) a b e =
    let m : 1 ≡ length ((y ∷ ys) ++ b ∷ []) = ap length e in let n = length-append (y ∷ ys) (b ∷ []) in absurd (omega arith)
last_is (x ∷ xs) [] a b e =
    let m : length ((x ∷ xs) ++ a ∷ []) ≡ 1 = ap length e in let n = length-append (x ∷ xs) (a ∷ []) in absurd (omega arith)
last_is (x ∷ xs) (y ∷ ys) a b e = let rest : xs ++ a ∷ [] ≡ ys ++ b ∷ [] = cc in last_is xs ys a b rest

-- it stands at one place, so not before
pub unlisted_before : (ns : List ℕ) (n : ℕ) → IsEntry (ns ++ n ∷ []) n (length ns) → is_listed ns n ≡ false
unlisted_before ns n h = unlisted ns n (λ i g.
    let is : i ≡ length ns = h.only i (got_before ns n i n g) in
    let within : i < length ns = slice_get_within ns i n g in
    omega arith)

pub one_less : {X : Type 0} (all ns : List ℕ) (xs ys : List X) (n : ℕ) (x : X) → all ≡ ns ++ n ∷ [] → xs ≡ ys ++ x ∷ [] → length all ≡ length xs → length ns ≡ length ys
one_less all ns xs ys n x e f g =
    let a : length all ≡ length ns + 1 = ap length e ∙ length-append ns (n ∷ []) in
    let b : length xs ≡ length ys + 1 = ap length f ∙ length-append ys (x ∷ []) in
    omega arith

pub absent : (m : FinMap nat_cmp (List ℕ)) (page : ℕ) → has_page m page ≡ false → map.get m page ≡ None
absent m page e = by (map.get m page) e
  where
    by : (o : Option (List ℕ)) → is_some o ≡ false → o ≡ None
    by None f = refl
    by (Some x) f = absurd (true≢false f)
