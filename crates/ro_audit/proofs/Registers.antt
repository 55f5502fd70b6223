-- Registers that are compared, one after another.
use Rattle.std.proofs.Common.{◌≡◌, ◌⊎◌, inl, inr, ◌↔◌, ◌<◌, ◌+◌, ℕ, List, sym, subst, arith}
use Rattle.std.specs.Prelude.{◌≢◌, slice_get}
use Rattle.std.proofs.lemmas.Bool.{cases_eq}
use Rattle.ro_audit.specs.Registers.{IsMarked, AreUnequal}

-- of the registers below a place just those are among them that differ
abbrev pub AreUnequalTo : (registers : ℕ) → (one other : List ℕ) → (n : ℕ) → Type 0
AreUnequalTo registers one other n = (place : ℕ) → place < 31 → IsMarked registers (place + 1) ↔ ((place < n) × (slice_get one place ≢ slice_get other place))

module _ (registers : ℕ) (one other : List ℕ) (n : ℕ) (so_far : AreUnequalTo registers one other n) where
  -- with one more that differs
  pub one-more : (more : ℕ) → ((k : ℕ) → IsMarked more k ↔ ((k ≡ n + 1) ⊎ IsMarked registers k)) → slice_get one n ≢ slice_get other n → AreUnequalTo more one other (n + 1)
  one-more more with differs place low = (to, from)
    where
      to : IsMarked more (place + 1) → (place < n + 1) × (slice_get one place ≢ slice_get other place)
      to marked = by ((with (place + 1)).0 marked)
        where
          by : (place + 1 ≡ n + 1) ⊎ IsMarked registers (place + 1) → (place < n + 1) × (slice_get one place ≢ slice_get other place)
          by (inl e) = let same : n ≡ place = omega arith in (omega arith, subst (λ (k : ℕ). slice_get one k ≢ slice_get other k) same differs)
          by (inr was) = let its = (so_far place low).0 was in let less = its.0 in (omega arith, its.1)

      from : (place < n + 1) × (slice_get one place ≢ slice_get other place) → IsMarked more (place + 1)
      from (less, unlike) = (with (place + 1)).1 (by (cases_eq place n))
        where
          by : (place ≡ n) ⊎ (place ≢ n) → (place + 1 ≡ n + 1) ⊎ IsMarked registers (place + 1)
          by (inl same) = inl (omega arith)
          by (inr apart) = inr ((so_far place low).1 (omega arith, unlike))

  -- with one more that does not
  pub no-more : slice_get one n ≡ slice_get other n → AreUnequalTo registers one other (n + 1)
  no-more same place low = (
    λ marked. (let its = (so_far place low).0 marked in let less = its.0 in (omega arith, its.1)),
    λ its. by its (cases_eq place n),
  )
    where
      by : (place < n + 1) × (slice_get one place ≢ slice_get other place) → (place ≡ n) ⊎ (place ≢ n) → IsMarked registers (place + 1)
      by (less, unlike) (inl equal) = absurd (unlike (subst (λ (k : ℕ). slice_get one k ≡ slice_get other k) (sym equal) same))
      by (less, unlike) (inr apart) = (so_far place low).1 (omega arith, unlike)

-- all of them
pub all-unequal : (registers : ℕ) (one other : List ℕ) → AreUnequalTo registers one other 31 → AreUnequal registers one other
all-unequal registers one other to place low = (λ marked. ((to place low).0 marked).1, λ unlike. (to place low).1 (low, unlike))
