-- Thirty-two registers of which the first is 0, seen as the others.
use Rattle.std.specs.Prelude.{◌≡◌, ℕ, zero, suc, ◌-◌, ◌==◌, if◌then◌else◌, List, [], ◌∷◌, drop, slice_index, slice_set}
use Rattle.std.proofs.Common.{refl, ap, sym, arith}
use Rattle.std.proofs.lemmas.Bool.{ne_eqb}

pub read : (x : List ℕ) (r : ℕ) → slice_index x 0 ≡ 0 → slice_index x r ≡ (if r == 0 then 0 else slice_index (drop 1 x) (r - 1))
read [] zero h = h
read [] (suc r) h = rw (ne_eqb (suc r) 0 (λ e. omega arith)) refl
read (y ∷ ys) zero h = h
read (y ∷ ys) (suc r) h =
    let back : suc r - 1 ≡ r = omega arith in
    rw (ne_eqb (suc r) 0 (λ e. omega arith)) (ap (λ (k : ℕ). slice_index ys k) (sym back))

pub zeroed : (x : List ℕ) → slice_index (slice_set x 0 0) 0 ≡ 0
zeroed [] = refl
zeroed (y ∷ ys) = refl

pub written : (x : List ℕ) (r v : ℕ) → drop 1 (slice_set (slice_set x r v) 0 0) ≡ (if r == 0 then drop 1 x else slice_set (drop 1 x) (r - 1) v)
written [] zero v = refl
written [] (suc r) v = rw (ne_eqb (suc r) 0 (λ e. omega arith)) refl
written (y ∷ ys) zero v = refl
written (y ∷ ys) (suc r) v =
    let back : suc r - 1 ≡ r = omega arith in
    rw (ne_eqb (suc r) 0 (λ e. omega arith)) (ap (λ (k : ℕ). slice_set ys k v) (sym back))
