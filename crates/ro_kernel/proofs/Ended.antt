-- A list each of whose elements is changed in its place: what is done and what is left make the whole.
use Rattle.std.specs.Prelude.{◌≡◌, ℕ, zero, suc, ◌+◌, ◌<◌, ◌≤◌, List, [], ◌∷◌, ◌++◌, length, map, take, drop, get_or, slice_set}
use Rattle.std.proofs.Common.{refl, sym, ap, ◌∙◌, arith}

module _ {X : Type 0} (f : X → X) where
  done-suc : (xs : List X) (i : ℕ) (d : X) → i < length xs
      → take i xs ++ map f (drop i xs) ≡ take (suc i) (slice_set xs i (f (get_or xs i d))) ++ map f (drop (suc i) (slice_set xs i (f (get_or xs i d))))
  done-suc [] i d h = absurd (omega arith)
  done-suc (x ∷ xs) zero d h = refl
  done-suc (x ∷ xs) (suc i) d h = ap (λ (ys : List X). x ∷ ys) (done-suc xs i d (omega arith))

  pub done-one : (xs : List X) (i : ℕ) (d y : X) → i < length xs → y ≡ f (get_or xs i d)
      → take i xs ++ map f (drop i xs) ≡ take (i + 1) (slice_set xs i y) ++ map f (drop (i + 1) (slice_set xs i y))
  done-one xs i d y h e =
      done-suc xs i d h
      ∙ (ap (λ n. take n (slice_set xs i (f (get_or xs i d))) ++ map f (drop n (slice_set xs i (f (get_or xs i d))))) (let g : suc i ≡ i + 1 = omega arith in g)
      ∙ ap (λ (z : X). take (i + 1) (slice_set xs i z) ++ map f (drop (i + 1) (slice_set xs i z))) (sym e))

  pub done-all : (first xs : List X) (i : ℕ) → length xs ≤ i → map f first ≡ take i xs ++ map f (drop i xs) → xs ≡ map f first
  done-all first xs i h e = sym (e ∙ all xs i h)
    where
      all : (ys : List X) (j : ℕ) → length ys ≤ j → take j ys ++ map f (drop j ys) ≡ ys
      all [] zero k = refl
      all [] (suc j) k = refl
      all (x ∷ ys) zero k = absurd (omega arith)
      all (x ∷ ys) (suc j) k = ap (λ (zs : List X). x ∷ zs) (all ys j (omega arith))
