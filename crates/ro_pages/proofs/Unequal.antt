-- How many pages a copy writes.
use Rattle.std.specs.Prelude.{◌≡◌, ◌≢◌, ℕ, zero, suc, ◌+◌, ◌<◌, ◌||◌, ◌==◌, true, false, List, [], ◌∷◌, ◌++◌, length, drop, slice_get, Some}
use Rattle.std.specs.Option.{unwrap_or}
use Rattle.std.proofs.Common.{refl, sym, ap, subst, ◌∙◌, inl, inr, arith, get_or}
use Rattle.std.proofs.lemmas.Bool.{cases_eq, true≢false, eq-eqb, ne_eqb, or_parts}
use Rattle.std.proofs.lemmas.List.{drop_more, length-append}
use Rattle.std.proofs.lemmas.List.Folds.{list_any-append}
use Rattle.std.proofs.lemmas.Option.{slice_get_within}
use Rattle.std.specs.Ordering.{nat_cmp}
use Rattle.std.specs.FinMap as map
use Rattle.std.specs.FinMap.{FinMap}
use Rattle.ro_pages.specs.Directories.{is_listed}
use Rattle.ro_pages.specs.Held.{CountsUnequal}
use Rattle.ro_pages.proofs.Entries.{got_cases, unlisted}
use Rattle.ro_pages.proofs.PageBytes.{other_get}

-- so many pages before the rest of the list have other bytes, and those of the rest are as they were
pub record CountsSoFar (m n now : FinMap nat_cmp (List ℕ)) (rest : List ℕ) (count : ℕ) : Type 0 where
  pub pages : List ℕ
  pub counted : length pages ≡ count
  pub once : (i j page : ℕ) → slice_get pages i ≡ Some page → slice_get pages j ≡ Some page → i ≡ j
  pub unequal : (i page : ℕ) → slice_get pages i ≡ Some page → map.get m page ≢ map.get n page
  pub before : (i page : ℕ) → slice_get pages i ≡ Some page → is_listed rest page ≡ false
  pub all : (page : ℕ) → is_listed pages page ≡ false → is_listed rest page ≡ false → map.get m page ≡ map.get n page
  pub kept : (page : ℕ) → is_listed rest page ≡ true → map.get now page ≡ map.get m page

never : (i page : ℕ) → slice_get {X = ℕ} [] i ≡ Some page → ⊥
never i page e = absurd (omega (slice_get_within [] i page e, arith))

pub none_so_far : (m n now : FinMap nat_cmp (List ℕ)) (ns : List ℕ) → now ≡ m → ((page : ℕ) → is_listed ns page ≡ false → map.get m page ≡ map.get n page) → CountsSoFar m n now ns 0
none_so_far m n now ns is h = record {
  pages = [];
  counted = refl;
  once = λ i j page e _. absurd (never i page e);
  unequal = λ i page e. absurd (never i page e);
  before = λ i page e. absurd (never i page e);
  all = λ page _ l. h page l;
  kept = λ page _. ap (λ k. map.get k page) is;
}

pub counts_all : (m n now : FinMap nat_cmp (List ℕ)) (rest : List ℕ) (count : ℕ) → rest ≡ [] → CountsSoFar m n now rest count → CountsUnequal m n count
counts_all m n now rest count e h = record {
  pages = h.pages;
  are = record { once = h.once; unequal = h.unequal; all = λ page l. h.all page l (ap (λ ns. is_listed ns page) e) };
  counted = h.counted;
}

got_drop : (ns : List ℕ) (k j : ℕ) → slice_get (drop k ns) j ≡ slice_get ns (k + j)
got_drop ns zero j = ap (slice_get ns) (omega arith)
got_drop [] (suc k) j = refl
got_drop (n ∷ ns) (suc k) j = let e : suc (k + j) ≡ suc k + j = omega arith in got_drop ns k j ∙ ap (slice_get (n ∷ ns)) e

module _ (ns : List ℕ) (i : ℕ) (low : i < length ns) (only : (j : ℕ) → slice_get ns j ≡ Some (get_or ns i 0) → j ≡ i)
  where
    rest_is : (page : ℕ) → is_listed (drop i ns) page ≡ (get_or ns i 0 == page || is_listed (drop (i + 1) ns) page)
    rest_is page = ap (λ ks. is_listed ks page) (drop_more ns i 0 low)

    here : is_listed (drop i ns) (get_or ns i 0) ≡ true
    here = rest_is (get_or ns i 0) ∙ ap (λ b. b || is_listed (drop (i + 1) ns) (get_or ns i 0)) (eq-eqb (get_or ns i 0) (get_or ns i 0) refl)

    gone : is_listed (drop (i + 1) ns) (get_or ns i 0) ≡ false
    gone = unlisted (drop (i + 1) ns) (get_or ns i 0) (λ j e. let is = only (i + 1 + j) (sym (got_drop ns (i + 1) j) ∙ e) in absurd (omega arith))

    other_rest : (page : ℕ) → page ≢ get_or ns i 0 → is_listed (drop i ns) page ≡ is_listed (drop (i + 1) ns) page
    other_rest page other = rest_is page ∙ ap (λ b. b || is_listed (drop (i + 1) ns) page) (ne_eqb (get_or ns i 0) page (λ e. other (sym e)))

    fewer : (page : ℕ) → is_listed (drop i ns) page ≡ false → is_listed (drop (i + 1) ns) page ≡ false
    fewer page l = (or_parts _ _ (sym (rest_is page) ∙ l)).1

    module _ (m n now new : FinMap nat_cmp (List ℕ)) (z old theirs : List ℕ) (new_is : new ≡ map.insert now (get_or ns i 0) z) (mine : map.get now (get_or ns i 0) ≡ Some old) (other_is : map.get n (get_or ns i 0) ≡ Some theirs) (count : ℕ) (h : CountsSoFar m n now (drop i ns) count)
      where
        abbrev q : ℕ
        q = get_or ns i 0

        mine_first : map.get m q ≡ Some old
        mine_first = sym (h.kept q here) ∙ mine

        still : (page : ℕ) → is_listed (drop (i + 1) ns) page ≡ true → map.get new page ≡ map.get m page
        still page l =
            let other : page ≢ q = λ e. true≢false (sym l ∙ ap (is_listed (drop (i + 1) ns)) e ∙ gone) in
            ap (λ k. map.get k page) new_is ∙ other_get now q page z other ∙ h.kept page (other_rest page other ∙ l)

        pub same_so_far : old ≡ theirs → CountsSoFar m n new (drop (i + 1) ns) (count + 0)
        same_so_far same = record {
          pages = h.pages;
          counted = h.counted ∙ omega arith;
          once = h.once;
          unequal = h.unequal;
          before = λ j page e. fewer page (h.before j page e);
          all = λ page l rest. elim (cases_eq page q) [
            | inl is ↦ ap (map.get m) is ∙ mine_first ∙ ap Some same ∙ sym (ap (map.get n) is ∙ other_is)
            | inr other ↦ h.all page l (other_rest page other ∙ rest)
          ];
          kept = still;
        }

        apart : (j page : ℕ) → slice_get h.pages j ≡ Some page → page ≢ q
        apart j page e is = true≢false (sym here ∙ ap (is_listed (drop i ns)) (sym is) ∙ h.before j page e)

        pub more_so_far : old ≢ theirs → CountsSoFar m n new (drop (i + 1) ns) (count + 1)
        more_so_far other = record {
          pages = h.pages ++ q ∷ [];
          counted = length-append h.pages (q ∷ []) ∙ ap (λ k. k + 1) h.counted;
          once = λ j k page e f. elim (got_cases h.pages q j page e) [
            | inl first ↦ elim (got_cases h.pages q k page f) [ inl second ↦ h.once j k page first second | inr last ↦ absurd (apart j page first last.1) ]
            | inr last ↦ elim (got_cases h.pages q k page f) [ inl second ↦ absurd (apart k page second last.1) | inr both ↦ last.0 ∙ sym both.0 ]
          ];
          unequal = λ j page e. elim (got_cases h.pages q j page e) [
            | inl first ↦ h.unequal j page first
            | inr last ↦ λ same. other (ap (λ o. unwrap_or o []) (sym mine_first ∙ ap (map.get m) (sym last.1) ∙ same ∙ ap (map.get n) last.1 ∙ other_is))
          ];
          before = λ j page e. elim (got_cases h.pages q j page e) [ inl first ↦ fewer page (h.before j page first) | inr last ↦ ap (is_listed (drop (i + 1) ns)) last.1 ∙ gone ];
          all = λ page l rest.
              let parts = or_parts _ _ (sym (list_any-append (λ k. k == page) h.pages (q ∷ [])) ∙ l) in
              let not_here : page ≢ q = λ e. true≢false (sym (eq-eqb q page (sym e)) ∙ (or_parts _ _ parts.1).0) in
              h.all page parts.0 (other_rest page not_here ∙ rest);
          kept = still;
        }

        -- one page more is copied, and written where it has other bytes
        pub so_far_more : (k : ℕ) → (k ≡ 0 → old ≡ theirs) → (k ≢ 0 → (k ≡ 1) × (old ≢ theirs)) → CountsSoFar m n new (drop (i + 1) ns) (count + k)
        so_far_more k same other = elim (cases_eq k 0) [
          | inl none ↦ subst (λ j. CountsSoFar m n new (drop (i + 1) ns) (count + j)) (sym none) (same_so_far (same none))
          | inr some ↦ let o = other some in subst (λ j. CountsSoFar m n new (drop (i + 1) ns) (count + j)) (sym o.0) (more_so_far o.1)
        ]
