-- Places of a list that are among so many numbers.
use Rattle.std.specs.Prelude.{◌≡◌, ◌≢◌, ℕ, zero, suc, ◌+◌, ◌<◌, ◌≤◌, ◌⊎◌, Bool, true, false, cond, not, ◌||◌, ◌==◌, List, [], ◌∷◌, length, Some, slice_get}
use Rattle.std.specs.List.{filter, count_by}
use Rattle.std.proofs.Common.{refl, sym, ap, ◌∙◌, subst, arith, inl, inr}
use Rattle.std.proofs.lemmas.Bool.{true≢false, eqb-true, eq-eqb, ne_eqb}
use Rattle.std.proofs.lemmas.List.Sums.{sum_by-cons}
use Rattle.ro_vote.specs.Numbers.{is_among, without}

-- ---- one number

-- a number is among itself
pub only : (n i : ℕ) → n ≡ i → is_among (n ∷ []) i ≡ true
only n i e = ap (λ (b : Bool). b || false) (eq-eqb n i e)

-- and no other is
pub not-only : (n i : ℕ) → n ≢ i → is_among (n ∷ []) i ≡ false
not-only n i d = ap (λ (b : Bool). b || false) (ne_eqb n i d)

-- what is among it is it
pub is-only : (n i : ℕ) → is_among (n ∷ []) i ≡ true → n ≡ i
is-only n i h = by (n == i) refl
  where
    by : (b : Bool) → (n == i) ≡ b → n ≡ i
    by true e = eqb-true n i e
    by false e = absurd (true≢false (sym h ∙ ap (λ (b : Bool). b || false) e))

-- ---- how many places

-- one more element
pub count-cons : {X : Type 0} (test : X → Bool) (x : X) (xs : List X) → count_by test (x ∷ xs) ≡ cond (test x) 1 0 + count_by test xs
count-cons test x xs = sum_by-cons (λ y. cond (test y) 1 0) x xs

-- how many of so many numbers, from this one on, pass
pub passing : (ℕ → Bool) → (from count : ℕ) → ℕ
passing test from zero = 0
passing test from (suc n) = cond (test from) 1 0 + passing test (suc from) n

-- one number or the other
one-of-both : (b c : Bool) → cond (b || c) 1 0 ≤ cond b 1 0 + cond c 1 0
one-of-both true true = omega arith
one-of-both true false = omega arith
one-of-both false true = omega arith
one-of-both false false = omega arith

-- two tests pass as often as each
both-pass : (f g : ℕ → Bool) (k n : ℕ) → passing (λ i. f i || g i) k n ≤ passing f k n + passing g k n
unfolding passing
both-pass f g k zero = omega arith
both-pass f g k (suc n) = let h = both-pass f g (suc k) n in let o = one-of-both (f k) (g k) in omega arith

-- a number that is passed is not met again
past : (x k n : ℕ) → x < k → passing (λ i. x == i) k n ≡ 0
unfolding passing
past x k zero low = refl
past x k (suc n) low = by (x == k) refl (past x (suc k) n (omega arith))
  where
    by : (b : Bool) → (x == k) ≡ b → passing (λ i. x == i) (suc k) n ≡ 0 → cond (x == k) 1 0 + passing (λ i. x == i) (suc k) n ≡ 0
    by true e h = absurd (let same = eqb-true x k e in omega arith)
    by false e h = ap (λ (b : Bool). cond b 1 0 + passing (λ i. x == i) (suc k) n) e ∙ omega arith

-- one number is met at most once
once : (x k n : ℕ) → passing (λ i. x == i) k n ≤ 1
unfolding passing
once x k zero = omega arith
once x k (suc n) = by (x == k) refl (once x (suc k) n)
  where
    by : (b : Bool) → (x == k) ≡ b → passing (λ i. x == i) (suc k) n ≤ 1 → cond (x == k) 1 0 + passing (λ i. x == i) (suc k) n ≤ 1
    by true e h =
        let same = eqb-true x k e in
        let none = past x (suc k) n (omega arith) in
        subst (λ (b : Bool). cond b 1 0 + passing (λ i. x == i) (suc k) n ≤ 1) (sym e) (omega arith)
    by false e h = subst (λ (b : Bool). cond b 1 0 + passing (λ i. x == i) (suc k) n ≤ 1) (sym e) (omega arith)

-- none is met
no-number : (k n : ℕ) → passing (is_among []) k n ≡ 0
unfolding passing
no-number k zero = refl
no-number k (suc n) = let h = no-number (suc k) n in omega arith

-- the numbers of a list are met at most once each
pub at-most-once : (numbers : List ℕ) (k n : ℕ) → passing (is_among numbers) k n ≤ length numbers
at-most-once [] k n = let h = no-number k n in omega arith
at-most-once (x ∷ numbers) k n =
    let h = at-most-once numbers k n in
    let o = once x k n in
    let b = both-pass (λ i. x == i) (is_among numbers) k n in
    omega arith

-- An element that passes the test, at a place that is not among the numbers.
pub record Outside {X : Type 0} (test : X → Bool) (numbers : List ℕ) (xs : List X) (from : ℕ) : Type 0 where
  pub place : ℕ
  pub element : X
  pub there : slice_get xs place ≡ Some element
  pub passes : test element ≡ true
  pub outside : is_among numbers (from + place) ≡ false

-- there is one, or no more pass than there are such places
look-from : {X : Type 0} (test : X → Bool) (numbers : List ℕ) (xs : List X) (from : ℕ) → Outside test numbers xs from ⊎ (count_by test xs ≤ passing (is_among numbers) from (length xs))
unfolding passing
look-from test numbers [] from = inr (omega arith)
look-from test numbers (x ∷ xs) from = by (test x) refl (is_among numbers from) refl (look-from test numbers xs (suc from))
  where
    count : (b c : Bool) → test x ≡ b → is_among numbers from ≡ c → cond b 1 0 ≤ cond c 1 0 → count_by test xs ≤ passing (is_among numbers) (suc from) (length xs) → count_by test (x ∷ xs) ≤ cond (is_among numbers from) 1 0 + passing (is_among numbers) (suc from) (length xs)
    count b c e f low h =
        let one = count-cons test x xs in
        let e' : cond {A = ℕ} (test x) 1 0 ≡ cond {A = ℕ} b 1 0 = ap {B = ℕ} (λ (y : Bool). cond {A = ℕ} y 1 0) e in
        let f' : cond {A = ℕ} (is_among numbers from) 1 0 ≡ cond {A = ℕ} c 1 0 = ap {B = ℕ} (λ (y : Bool). cond {A = ℕ} y 1 0) f in
        omega arith

    by : (b : Bool) → test x ≡ b → (c : Bool) → is_among numbers from ≡ c → Outside test numbers xs (suc from) ⊎ (count_by test xs ≤ passing (is_among numbers) (suc from) (length xs)) → Outside test numbers (x ∷ xs) from ⊎ (count_by test (x ∷ xs) ≤ cond (is_among numbers from) 1 0 + passing (is_among numbers) (suc from) (length xs))
    by b e c f (inl o) = inl (record {
      place = suc o.place;
      element = o.element;
      there = o.there;
      passes = o.passes;
      outside = let same : from + suc o.place ≡ suc from + o.place = omega arith in ap (is_among numbers) same ∙ o.outside;
    })
    by true e false f (inr h) = inl (record {
      place = 0;
      element = x;
      there = refl;
      passes = e;
      outside = let same : from + 0 ≡ from = omega arith in ap (is_among numbers) same ∙ f;
    })
    by true e true f (inr h) = inr (count true true e f (omega arith) h)
    by false e false f (inr h) = inr (count false false e f (omega arith) h)
    by false e true f (inr h) = inr (count false true e f (omega arith) h)

-- where more pass than there are numbers, one does outside of them
pub look : {X : Type 0} (test : X → Bool) (numbers : List ℕ) (xs : List X) → Outside test numbers xs 0 ⊎ (count_by test xs ≤ length numbers)
look test numbers xs = by (look-from test numbers xs 0)
  where
    by : Outside test numbers xs 0 ⊎ (count_by test xs ≤ passing (is_among numbers) 0 (length xs)) → Outside test numbers xs 0 ⊎ (count_by test xs ≤ length numbers)
    by (inl o) = inl o
    by (inr h) = inr (let m = at-most-once numbers 0 (length xs) in omega arith)

-- every element passes that test
count-all : {X : Type 0} (xs : List X) → count_by (λ (x : X). true) xs ≡ length xs
count-all [] = refl
count-all (x ∷ xs) = let h = count-all xs in let c = count-cons (λ y. true) x xs in omega arith

-- a list that is longer than the numbers are many has an element outside of them
pub some-outside : {X : Type 0} (numbers : List ℕ) (xs : List X) → length numbers < length xs → Outside (λ (x : X). true) numbers xs 0
some-outside numbers xs low = by (look (λ x. true) numbers xs)
  where
    by : Outside (λ x. true) numbers xs 0 ⊎ (count_by (λ x. true) xs ≤ length numbers) → Outside (λ x. true) numbers xs 0
    by (inl o) = o
    by (inr h) = absurd (let c = count-all xs in omega arith)

-- what passes and what does not are all
pub count-both : {X : Type 0} (test : X → Bool) (xs : List X) → count_by test xs + count_by (λ x. not (test x)) xs ≡ length xs
count-both test [] = refl
count-both test (x ∷ xs) =
    let h = count-both test xs in
    let a = count-cons test x xs in
    let b = count-cons (λ y. not (test y)) x xs in
    let c = either (test x) in
    omega arith
  where
    either : (b : Bool) → cond b 1 0 + cond (not b) 1 0 ≡ 1
    either true = refl
    either false = refl

-- ---- a list without one of its numbers

-- what is kept
kept : (x : ℕ) (b : Bool) (n : ℕ) (numbers : List ℕ) → (n == x) ≡ b → filter (λ m. not (m == x)) (n ∷ numbers) ≡ cond b (without x numbers) (n ∷ without x numbers)
kept x true n numbers e = ap (λ (b : Bool). cond (not b) (n ∷ without x numbers) (without x numbers)) e
kept x false n numbers e = ap (λ (b : Bool). cond (not b) (n ∷ without x numbers) (without x numbers)) e

-- it is not longer
pub without-longer : (x : ℕ) (numbers : List ℕ) → length (without x numbers) ≤ length numbers
without-longer x [] = omega arith
without-longer x (n ∷ numbers) = by (n == x) refl (without-longer x numbers)
  where
    by : (b : Bool) → (n == x) ≡ b → length (without x numbers) ≤ length numbers → length (without x (n ∷ numbers)) ≤ suc (length numbers)
    by true e h = let k = ap {B = ℕ} length (kept x true n numbers e) in omega arith
    by false e h = let k = ap {B = ℕ} length (kept x false n numbers e) in omega arith

-- it is shorter where the number was in it
pub without-shorter : (x : ℕ) (numbers : List ℕ) → is_among numbers x ≡ true → length (without x numbers) < length numbers
without-shorter x [] h = absurd (true≢false (sym h))
without-shorter x (n ∷ numbers) h = by (n == x) refl (without-shorter x numbers)
  where
    by : (b : Bool) → (n == x) ≡ b → (is_among numbers x ≡ true → length (without x numbers) < length numbers) → length (without x (n ∷ numbers)) < suc (length numbers)
    by true e later = let l = without-longer x numbers in let k = ap {B = ℕ} length (kept x true n numbers e) in omega arith
    by false e later =
        let l = later (sym (ap (λ (b : Bool). b || is_among numbers x) e) ∙ h) in
        let k = ap {B = ℕ} length (kept x false n numbers e) in omega arith

-- any other number stays in it
pub without-other : (x : ℕ) (numbers : List ℕ) (i : ℕ) → is_among (without x numbers) i ≡ false → x ≢ i → is_among numbers i ≡ false
without-other x [] i h d = refl
without-other x (n ∷ numbers) i h d = by (n == x) refl (n == i) refl (λ k. without-other x numbers i k d)
  where
    by : (b : Bool) → (n == x) ≡ b → (c : Bool) → (n == i) ≡ c → (is_among (without x numbers) i ≡ false → is_among numbers i ≡ false) → ((n == i) || is_among numbers i) ≡ false
    by true e true f later = absurd (d (sym (eqb-true n x e) ∙ eqb-true n i f))
    by true e false f later =
        ap (λ (c : Bool). c || is_among numbers i) f ∙ later (sym (ap (λ (l : List ℕ). is_among l i) (kept x true n numbers e)) ∙ h)
    by false e true f later =
        absurd (true≢false (sym (ap (λ (c : Bool). c || is_among (without x numbers) i) f) ∙ (sym (ap (λ (l : List ℕ). is_among l i) (kept x false n numbers e)) ∙ h)))
    by false e false f later =
        ap (λ (c : Bool). c || is_among numbers i) f
        ∙ later (sym (ap (λ (c : Bool). c || is_among (without x numbers) i) f) ∙ (sym (ap (λ (l : List ℕ). is_among l i) (kept x false n numbers e)) ∙ h))

-- the number itself is not in it
pub without-itself : (x : ℕ) (numbers : List ℕ) → is_among (without x numbers) x ≡ false
without-itself x [] = refl
without-itself x (n ∷ numbers) = by (n == x) refl (without-itself x numbers)
  where
    by : (b : Bool) → (n == x) ≡ b → is_among (without x numbers) x ≡ false → is_among (without x (n ∷ numbers)) x ≡ false
    by true e later = ap (λ (l : List ℕ). is_among l x) (kept x true n numbers e) ∙ later
    by false e later =
        ap (λ (l : List ℕ). is_among l x) (kept x false n numbers e) ∙ (ap (λ (c : Bool). c || is_among (without x numbers) x) e ∙ later)
