-- The parts of a made file, one after the other.
use Rattle.std.proofs.Common.{◌≡◌, ℕ, suc, ◌+◌, ◌-◌, ◌<◌, List, [], ◌∷◌, ◌++◌, replicate, sym, ap, ◌∙◌, arith, append_assoc}

-- a zero more is pushed
pub zeros_more : (file new all : List ℕ) (count i : ℕ) → i < count → file ++ replicate (count - i) 0 ≡ all → new ≡ file ++ 0 ∷ []
    → new ++ replicate (count - (i + 1)) 0 ≡ all
zeros_more file new all count i h so_far more =
    let left : count - i ≡ suc (count - (i + 1)) = omega arith in
    ap (λ (xs : List ℕ). xs ++ replicate (count - (i + 1)) 0) more
    ∙ append_assoc file (0 ∷ []) (replicate (count - (i + 1)) 0)
    ∙ ap (λ (n : ℕ). file ++ replicate n 0) (sym left)
    ∙ so_far
