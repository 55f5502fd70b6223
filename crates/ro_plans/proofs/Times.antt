-- How often a thread steps in lists that are put together.
use Rattle.std.specs.Prelude.{◌≡◌, ℕ, zero, suc, ◌+◌, ◌≤◌, Bool, true, false, cond, ◌==◌, List, [], ◌∷◌, ◌++◌, length, replicate}
use Rattle.std.proofs.Common.{ap, refl, arith}
use Rattle.std.proofs.lemmas.Bool.{eq-eqb}
use Rattle.ro_plans.specs.First.{times}

pub times-append : (t : ℕ) (xs ys : List ℕ) → times t (xs ++ ys) ≡ times t xs + times t ys
times-append t [] ys = omega arith
times-append t (x ∷ xs) ys = omega (arith, times-append t xs ys)

none : (b : Bool) → cond {A = ℕ} b 0 0 ≡ 0
none true = refl
none false = refl

one-more : (b : Bool) (n m : ℕ) → m ≡ cond b n 0 → cond b 1 0 + m ≡ cond b (suc n) 0
one-more true n m e = omega (arith, e)
one-more false n m e = omega (arith, e)

pub times-replicate : (u t n : ℕ) → times u (replicate n t) ≡ cond (t == u) n 0
times-replicate u t zero = omega (arith, none (t == u))
times-replicate u t (suc n) = one-more (t == u) n (times u (replicate n t)) (times-replicate u t n)

-- one step more of the thread
pub times-more : (t : ℕ) (xs : List ℕ) → times t (xs ++ t ∷ []) ≡ suc (times t xs)
times-more t xs = omega (arith, times-append t xs (t ∷ []), ap {B = ℕ} (λ (b : Bool). cond b 1 0) (eq-eqb t t refl))

bit : (b : Bool) (n m : ℕ) → n ≤ m → cond b 1 0 + n ≤ suc m
bit true n m h = omega (arith, h)
bit false n m h = omega (arith, h)

pub times-le-length : (t : ℕ) (xs : List ℕ) → times t xs ≤ length xs
times-le-length t [] = omega arith
times-le-length t (x ∷ xs) = bit (x == t) (times t xs) (length xs) (times-le-length t xs)
