-- Pages of a wish that are lent one after another.
use Rattle.std.specs.Prelude.{◌≡◌, ◌≢◌, ◌⊎◌, ℕ, suc, ◌+◌, ◌<◌, ◌≤◌, ◌==◌, Bool, true, false, ◌&&◌, ◌||◌, List, [], ◌∷◌, ◌++◌, length, take, is_some}
use Rattle.std.proofs.Common.{refl, sym, ap, ◌∙◌, inl, inr, arith, get_or, eq-eqb}
use Rattle.std.proofs.Math.Seq.{take-suc, take-length}
use Rattle.std.specs.List.{All, AllByRecursion}
use Rattle.std.proofs.lemmas.Bool.{cases_eq, true≢false, ne_eqb, eqb-true}
use Rattle.std.proofs.lemmas.List.Elements.{recursion_from_All}
use Rattle.std.proofs.lemmas.List.Folds.{list_any-append}
use Rattle.std.specs.Ordering.{nat_cmp}
use Rattle.std.specs.FinMap as map
use Rattle.std.specs.FinMap.{FinMap}
use Rattle.ro_region.specs.declared.Range.{Range}
use Rattle.ro_region.specs.Permission.{is_writable}
use Rattle.ro_pages.specs.Directories.{is_listed}
use Rattle.ro_pages.specs.Held.{has_page}
use Rattle.ro_replica.specs.Lent.{AreLent}

-- ---- one number more

or_false : (b : Bool) → (b || false) ≡ b
or_false true = refl
or_false false = refl

or_true : (b : Bool) → (b || true) ≡ true
or_true true = refl
or_true false = refl

and_false : (b : Bool) → (b && false) ≡ false
and_false true = refl
and_false false = refl

pub one_listed : (ns : List ℕ) (p q : ℕ) → is_listed (ns ++ p ∷ []) q ≡ (is_listed ns q || (p == q))
one_listed ns p q = list_any-append (λ n. n == q) ns (p ∷ []) ∙ ap (λ (b : Bool). is_listed ns q || b) (or_false (p == q))

-- the number itself
itself : (ns : List ℕ) (p q : ℕ) → q ≡ p → is_listed (ns ++ p ∷ []) q ≡ true
itself ns p q same = one_listed ns p q ∙ (ap (λ (b : Bool). is_listed ns q || b) (eq-eqb p q (sym same)) ∙ or_true (is_listed ns q))

another : (ns : List ℕ) (p q : ℕ) → q ≢ p → is_listed (ns ++ p ∷ []) q ≡ is_listed ns q
another ns p q apart = one_listed ns p q ∙ (ap (λ (b : Bool). is_listed ns q || b) (ne_eqb p q (λ e. apart (sym e))) ∙ or_false (is_listed ns q))

-- ---- one page more

module _ (ranges : List Range) (wished : ℕ → Bool) (home now few : FinMap nat_cmp (List ℕ)) (moved : List ℕ) (p : ℕ) (backed : has_page now ≡ has_page home) (so : AreLent ranges wished home now few moved) where
  with_it : (q : ℕ) → q ≡ p → (wished q || (p == q)) ≡ true
  with_it q same = ap (λ (b : Bool). wished q || b) (eq-eqb p q (sym same)) ∙ or_true (wished q)

  without_it : (q : ℕ) → q ≢ p → (wished q || (p == q)) ≡ wished q
  without_it q apart = ap (λ (b : Bool). wished q || b) (ne_eqb p q (λ e. apart (sym e))) ∙ or_false (wished q)

  -- a page that isn't there, or was lent before
  pub not-again : (has_page now p ≡ false) ⊎ (has_page few p ≡ true) → AreLent ranges (λ q. wished q || (p == q)) home now few moved
  not-again why = record { just = just; bytes = so.bytes; left = so.left; stay = so.stay }
    where
      same_there : (q : ℕ) → q ≡ p → (has_page now p ≡ false) ⊎ (has_page few p ≡ true) → has_page few q ≡ has_page home q
      same_there q same (inl none) =
          let gone : has_page home q ≡ false = ap (λ (f : ℕ → Bool). f q) (sym backed) ∙ (ap (has_page now) same ∙ none) in
          so.just q ∙ (ap (λ (b : Bool). wished q && b) gone ∙ (and_false (wished q) ∙ sym gone))
      same_there q same (inr some) =
          let here : has_page few q ≡ true = ap (has_page few) same ∙ some in
          here ∙ sym (second (wished q) (has_page home q) (sym (so.just q) ∙ here))
        where
          second : (a b : Bool) → (a && b) ≡ true → b ≡ true
          second true b h = h
          second false b h = absurd (true≢false (sym h))

      just : (q : ℕ) → has_page few q ≡ ((wished q || (p == q)) && has_page home q)
      just q = elim (cases_eq q p) [
        | inl same ↦ same_there q same why ∙ sym (ap (λ (b : Bool). b && has_page home q) (with_it q same))
        | inr apart ↦ so.just q ∙ sym (ap (λ (b : Bool). b && has_page home q) (without_it q apart))
      ]

  module _ (now_after few_after : FinMap nat_cmp (List ℕ)) (there : has_page now p ≡ true) (new : has_page few p ≡ false) (lent : map.get few_after p ≡ map.get now p) (others : (q : ℕ) → q ≢ p → map.get few_after q ≡ map.get few q) where
    unmoved : is_listed moved p ≡ false
    unmoved = so.left p ∙ ap (λ (b : Bool). b && is_writable ranges p) new

    has_it : (q : ℕ) → q ≡ p → has_page few_after q ≡ true
    has_it q same = ap (has_page few_after) same ∙ (ap is_some lent ∙ there)

    just : (q : ℕ) → has_page few_after q ≡ ((wished q || (p == q)) && has_page home q)
    just q = elim (cases_eq q p) [
      | inl same ↦ has_it q same ∙ sym (ap (λ (b : Bool). b && has_page home q) (with_it q same) ∙ (ap (λ (f : ℕ → Bool). f q) (sym backed) ∙ (ap (has_page now) same ∙ there)))
      | inr apart ↦ ap is_some (others q apart) ∙ (so.just q ∙ sym (ap (λ (b : Bool). b && has_page home q) (without_it q apart)))
    ]

    bytes : (q : ℕ) → has_page few_after q ≡ true → map.get few_after q ≡ map.get home q
    bytes q has = elim (cases_eq q p) [
      | inl same ↦ ap (map.get few_after) same ∙ (lent ∙ (so.stay p unmoved ∙ ap (map.get home) (sym same)))
      | inr apart ↦ others q apart ∙ so.bytes q (sym (ap is_some (others q apart)) ∙ has)
    ]

    -- it has left
    pub one-moved : is_writable ranges p ≡ true → ((q : ℕ) → q ≢ p → map.get now_after q ≡ map.get now q) → AreLent ranges (λ q. wished q || (p == q)) home now_after few_after (moved ++ p ∷ [])
    one-moved may kept = record { just = just; bytes = bytes; left = left; stay = stay }
      where
        left : (q : ℕ) → is_listed (moved ++ p ∷ []) q ≡ (has_page few_after q && is_writable ranges q)
        left q = elim (cases_eq q p) [
          | inl same ↦ itself moved p q same ∙ sym (ap (λ (b : Bool). b && is_writable ranges q) (has_it q same) ∙ (ap (is_writable ranges) same ∙ may))
          | inr apart ↦ another moved p q apart ∙ (so.left q ∙ ap (λ (b : Bool). b && is_writable ranges q) (sym (ap is_some (others q apart))))
        ]

        stay : (q : ℕ) → is_listed (moved ++ p ∷ []) q ≡ false → map.get now_after q ≡ map.get home q
        stay q none = elim (cases_eq q p) [
          | inl same ↦ absurd (true≢false (sym (itself moved p q same) ∙ none))
          | inr apart ↦ kept q apart ∙ so.stay q (sym (another moved p q apart) ∙ none)
        ]

    -- it went as a copy
    pub one-copied : is_writable ranges p ≡ false → AreLent ranges (λ q. wished q || (p == q)) home now few_after moved
    one-copied may = record { just = just; bytes = bytes; left = left; stay = so.stay }
      where
        left : (q : ℕ) → is_listed moved q ≡ (has_page few_after q && is_writable ranges q)
        left q = elim (cases_eq q p) [
          | inl same ↦ ap (is_listed moved) same ∙ (unmoved ∙ sym (ap (λ (b : Bool). has_page few_after q && b) (ap (is_writable ranges) same ∙ may) ∙ and_false (has_page few_after q)))
          | inr apart ↦ so.left q ∙ ap (λ (b : Bool). b && is_writable ranges q) (sym (ap is_some (others q apart)))
        ]

-- ---- all of a wish

pub none-lent : (ranges : List Range) (home few : FinMap nat_cmp (List ℕ)) (moved : List ℕ) → ((page : ℕ) → has_page few page ≡ false) → moved ≡ [] → AreLent ranges (is_listed []) home home few moved
none-lent ranges home few moved none left = record {
  just = none;
  bytes = λ page has. absurd (true≢false (sym has ∙ none page));
  left = λ page. ap (λ (ns : List ℕ). is_listed ns page) left ∙ sym (ap (λ (b : Bool). b && is_writable ranges page) (none page));
  stay = λ page h. refl;
}

-- what is wished for, by another function that answers the same
pub as-wished : (ranges : List Range) (one other : ℕ → Bool) (home now few : FinMap nat_cmp (List ℕ)) (moved : List ℕ) → ((page : ℕ) → one page ≡ other page) → AreLent ranges one home now few moved → AreLent ranges other home now few moved
as-wished ranges one other home now few moved same so = record {
  just = λ page. so.just page ∙ ap (λ (b : Bool). b && has_page home page) (same page);
  bytes = so.bytes;
  left = so.left;
  stay = so.stay;
}

-- one number more of the wish
pub wished-more : (wish : List ℕ) (i : ℕ) → i < length wish → (q : ℕ) → (is_listed (take i wish) q || (get_or wish i 0 == q)) ≡ is_listed (take (i + 1) wish) q
wished-more wish i within q =
    let next : take (i + 1) wish ≡ take i wish ++ get_or wish i 0 ∷ [] = ap (λ (n : ℕ). take n wish) (one i) ∙ take-suc wish i 0 within in
    sym (ap (λ (ns : List ℕ). is_listed ns q) next ∙ one_listed (take i wish) (get_or wish i 0) q)
  where
    one : (n : ℕ) → n + 1 ≡ suc n
    one n = omega arith

pub wished-all : (wish : List ℕ) (i : ℕ) → length wish ≤ i → i ≤ length wish → (q : ℕ) → is_listed (take i wish) q ≡ is_listed wish q
wished-all wish i past within q =
    let all : i ≡ length wish = omega (arith, past, within) in
    ap (λ (ns : List ℕ). is_listed ns q) (ap (λ (n : ℕ). take n wish) all ∙ take-length wish)

-- what is listed is one of the numbers
pub listed-low : (bound : ℕ) (ns : List ℕ) (q : ℕ) → All (λ n. n < bound) ns → is_listed ns q ≡ true → q < bound
listed-low bound ns q low is = by ns (recursion_from_All (λ n. n < bound) ns low) is
  where
    head : (n : ℕ) (b : Bool) → (n == q) ≡ b → n < bound → (b ≡ false → q < bound) → q < bound
    head n true e low more = let same : n ≡ q = eqb-true n q e in omega arith
    head n false e low more = more refl

    by : (ns : List ℕ) → AllByRecursion (λ n. n < bound) ns → is_listed ns q ≡ true → q < bound
    by [] low is = absurd (true≢false (sym is))
    by (n ∷ ns) low is = head n (n == q) refl low.0 (λ e. by ns low.1 (sym (ap (λ (b : Bool). b || is_listed ns q) e) ∙ is))
