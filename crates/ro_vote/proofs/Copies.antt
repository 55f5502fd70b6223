-- What copies of one element over others leave.
use Rattle.std.specs.Prelude.{◌≡◌, ◌≢◌, ℕ, zero, suc, ◌<◌, Bool, true, false, cond, ◌||◌, ◌==◌, List, [], ◌∷◌, length, Option, Some, None, slice_get, slice_set}
use Rattle.std.specs.Option.{option_map_or}
use Rattle.std.proofs.Common.{refl, sym, ap, ◌∙◌, subst, arith}
use Rattle.std.proofs.lemmas.Bool.{true≢false, false≢true, eqb-true, eq-eqb}
use Rattle.std.proofs.lemmas.List.{length-set}
use Rattle.ro_event.specs.Views.{View, same_view}
use Rattle.ro_vote.specs.Numbers.{is_among}
use Rattle.ro_vote.specs.Verdict.{differing_from}
use Rattle.ro_vote.specs.Copies.{with_copy, with_copies}
use Rattle.ro_vote.proofs.Verdicts.{differs-at}

-- no number stands twice in the list
pub data Distinct : List ℕ → Type 0 where
  none : Distinct []
  more : {n : ℕ} {numbers : List ℕ} → is_among numbers n ≡ false → Distinct numbers → Distinct (n ∷ numbers)

-- neither of two tests passed
pub neither : (b c : Bool) → (b || c) ≡ false → (b ≡ false) × (c ≡ false)
neither true c e = absurd (true≢false e)
neither false c e = (refl, e)

-- numbers from this one on are not below it
later : (v : View) (number : ℕ) (views : List View) (n : ℕ) → n < number → is_among (differing_from v number views) n ≡ false
later v number views n low = by (is_among (differing_from v number views) n) refl
  where
    by : (b : Bool) → is_among (differing_from v number views) n ≡ b → is_among (differing_from v number views) n ≡ false
    by false e = e
    by true e = absurd (let d = differs-at v number views n e in let h = d.2 in omega arith)

-- no replica loses twice
pub losers-distinct : (v : View) (number : ℕ) (views : List View) → Distinct (differing_from v number views)
losers-distinct v number [] = none
losers-distinct v number (w ∷ views) = by (same_view v w) refl (losers-distinct v (suc number) views)
  where
    by : (b : Bool) → same_view v w ≡ b → Distinct (differing_from v (suc number) views) → Distinct (cond (same_view v w) (differing_from v (suc number) views) (number ∷ differing_from v (suc number) views))
    by true e h = subst (λ (b : Bool). Distinct (cond b (differing_from v (suc number) views) (number ∷ differing_from v (suc number) views))) (sym e) h
    by false e h =
        subst (λ (b : Bool). Distinct (cond b (differing_from v (suc number) views) (number ∷ differing_from v (suc number) views))) (sym e)
        (more (later v (suc number) views number (omega arith)) h)

module _ {X : Type 0} (copy : X → X → X) where
  -- an element of another place stays when one is set
  set-other : (xs : List X) (i j : ℕ) (y : X) → i ≢ j → slice_get (slice_set xs i y) j ≡ slice_get xs j
  set-other [] i j y d = refl
  set-other (x ∷ xs) zero zero y d = absurd (d refl)
  set-other (x ∷ xs) zero (suc j) y d = refl
  set-other (x ∷ xs) (suc i) zero y d = refl
  set-other (x ∷ xs) (suc i) (suc j) y d = set-other xs i j y (λ e. d (ap suc e))

  -- the element that is set
  set-same : (xs : List X) (i : ℕ) (x y : X) → slice_get xs i ≡ Some x → slice_get (slice_set xs i y) i ≡ Some y
  set-same [] i x y h = absurd (let e : None ≡ Some x = h in cc)
  set-same (z ∷ xs) zero x y h = refl
  set-same (z ∷ xs) (suc i) x y h = set-same xs i x y h

  -- a copy leaves each element but the loser
  copy-other : (won lost : ℕ) (xs : List X) (j : ℕ) → lost ≢ j → slice_get (with_copy copy won lost xs) j ≡ slice_get xs j
  copy-other won lost xs j d = by (slice_get xs won) (slice_get xs lost)
    where
      by : (o p : Option X) → slice_get (option_map_or (λ w. option_map_or (λ l. slice_set xs lost (copy w l)) p xs) o xs) j ≡ slice_get xs j
      by None p = refl
      by (Some w) None = refl
      by (Some w) (Some l) = set-other xs lost j (copy w l) d

  -- and makes the loser what it is to be
  copy-here : (won lost : ℕ) (xs : List X) (w l : X) → slice_get xs won ≡ Some w → slice_get xs lost ≡ Some l → slice_get (with_copy copy won lost xs) lost ≡ Some (copy w l)
  copy-here won lost xs w l e f =
      ap (λ (o : Option X). slice_get (option_map_or (λ w. option_map_or (λ l. slice_set xs lost (copy w l)) (slice_get xs lost) xs) o xs) lost) e
      ∙ (ap (λ (o : Option X). slice_get (option_map_or (λ l. slice_set xs lost (copy w l)) o xs) lost) f
      ∙ set-same xs lost l (copy w l) f)

  -- there are as many elements
  copy-length : (won lost : ℕ) (xs : List X) → length (with_copy copy won lost xs) ≡ length xs
  copy-length won lost xs = by (slice_get xs won) (slice_get xs lost)
    where
      by : (o p : Option X) → length (option_map_or (λ w. option_map_or (λ l. slice_set xs lost (copy w l)) p xs) o xs) ≡ length xs
      by None p = refl
      by (Some w) None = refl
      by (Some w) (Some l) = length-set xs lost (copy w l)

  -- after any number of copies there are as many
  pub copies-length : (won : ℕ) (lost : List ℕ) (xs : List X) → length (with_copies copy won lost xs) ≡ length xs
  copies-length won [] xs = refl
  copies-length won (l ∷ lost) xs = copies-length won lost (with_copy copy won l xs) ∙ copy-length won l xs

  -- each element but the losers is as it was
  pub copies-other : (won : ℕ) (lost : List ℕ) (xs : List X) (j : ℕ) → is_among lost j ≡ false → slice_get (with_copies copy won lost xs) j ≡ slice_get xs j
  copies-other won [] xs j h = refl
  copies-other won (l ∷ lost) xs j h =
      let p = neither (l == j) (is_among lost j) h in
      copies-other won lost (with_copy copy won l xs) j p.1
      ∙ copy-other won l xs j (λ e. true≢false (sym (eq-eqb l j e) ∙ p.0))

  -- each loser is a copy of the winner, which is none of them
  pub copies-here : (won : ℕ) (lost : List ℕ) (xs : List X) (w : X) → Distinct lost → is_among lost won ≡ false → slice_get xs won ≡ Some w → (j : ℕ) (l : X) → is_among lost j ≡ true → slice_get xs j ≡ Some l → slice_get (with_copies copy won lost xs) j ≡ Some (copy w l)
  copies-here won [] xs w d out there j l h here = absurd (false≢true h)
  copies-here won (n ∷ lost) xs w (more away d) out there j l h here =
      by (n == j) refl
      (copies-here won lost (with_copy copy won n xs) w d (neither (n == won) (is_among lost won) out).1
      (copy-other won n xs won (λ e. true≢false (sym (eq-eqb n won e) ∙ (neither (n == won) (is_among lost won) out).0)) ∙ there) j l)
    where
      by : (b : Bool) → (n == j) ≡ b → (is_among lost j ≡ true → slice_get (with_copy copy won n xs) j ≡ Some l → slice_get (with_copies copy won lost (with_copy copy won n xs)) j ≡ Some (copy w l)) → slice_get (with_copies copy won lost (with_copy copy won n xs)) j ≡ Some (copy w l)
      by true e later =
          let same = eqb-true n j e in
          copies-other won lost (with_copy copy won n xs) j (ap (is_among lost) (sym same) ∙ away)
          ∙ (ap (slice_get (with_copy copy won n xs)) (sym same) ∙ copy-here won n xs w l there (ap (slice_get xs) same ∙ here))
      by false e later =
          later (sym (ap (λ (b : Bool). b || is_among lost j) e) ∙ h) (copy-other won n xs j (λ f. true≢false (sym (eq-eqb n j f) ∙ e)) ∙ here)

  -- An element after the copies: one as it was, or a copy of the winner.
  pub data AfterCopies (won : ℕ) (lost : List ℕ) (xs : List X) (number : ℕ) (x : X) : Type 0 where
    not_lost : is_among lost number ≡ false → slice_get xs number ≡ Some x → AfterCopies won lost xs number x
    is_copy : (winner loser : X) → is_among lost number ≡ true → slice_get xs won ≡ Some winner → slice_get xs number ≡ Some loser → copy winner loser ≡ x → AfterCopies won lost xs number x

  -- something is one thing
  injective : {x y : X} → Some x ≡ Some y → x ≡ y
  injective {x = x} {y = y} e = let f : Some x ≡ Some y = e in cc

  -- which of them an element is
  pub after-copies : (won : ℕ) (lost : List ℕ) (xs : List X) (w : X) → Distinct lost → is_among lost won ≡ false → slice_get xs won ≡ Some w → ((j : ℕ) → is_among lost j ≡ true → (l : X) × (slice_get xs j ≡ Some l))
      → (number : ℕ) (x : X) → slice_get (with_copies copy won lost xs) number ≡ Some x → AfterCopies won lost xs number x
  after-copies won lost xs w d out there all number x e = by (is_among lost number) refl
    where
      by : (b : Bool) → is_among lost number ≡ b → AfterCopies won lost xs number x
      by false f = not_lost f (sym (copies-other won lost xs number f) ∙ e)
      by true f = let l = all number f in is_copy w l.0 f there l.1 (injective (sym (copies-here won lost xs w d out there number l.0 f l.1) ∙ e))
