-- Clocks entry by entry.
use Rattle.std.specs.Prelude.{◌≡◌, ℕ, zero, suc, [], ◌∷◌, ◌+◌, ◌<◌, ◌≤◌, ◌⊎◌, max, nat_lt, Bool, true, false, if◌then◌else◌, List, length, slice_index_or, slice_set}
use Rattle.std.proofs.Common.{refl, sym, ap, ap₂, ◌∙◌, arith, inl, inr, ⊎_elim, get_or-set_other, get_or-set_same}
use Rattle.std.proofs.lemmas.Bool.{ltb-true}
use Rattle.std.proofs.Math.Nat.{le-max_left, le-max_right}

below-or-is : (v t : ℕ) → v < t + 1 → (v < t) ⊎ (v ≡ t)
below-or-is v t h = grind arith

past-all : (xs : List ℕ) (v : ℕ) → length xs ≤ v → slice_index_or xs v 0 ≡ 0
past-all [] v h = refl
past-all (x ∷ xs) zero h = absurd (omega arith)
past-all (x ∷ xs) (suc v) h = past-all xs v (omega arith)

pub past-end : (xs : List ℕ) (v n : ℕ) → length xs ≡ n → n ≤ v → slice_index_or xs v 0 ≡ 0
past-end xs v n e h = past-all xs v (omega arith)

pub joined-more : (now old other : List ℕ) (t m : ℕ) → length now ≡ 16 → t < 16 → ((v : ℕ) → v < t → slice_index_or now v 0 ≡ max (slice_index_or old v 0) (slice_index_or other v 0)) → ((v : ℕ) → t ≤ v → slice_index_or now v 0 ≡ slice_index_or old v 0) → m ≡ max (slice_index_or now t 0) (slice_index_or other t 0)
    → (v : ℕ) → v < t + 1 → slice_index_or (slice_set now t m) v 0 ≡ max (slice_index_or old v 0) (slice_index_or other v 0)
joined-more now old other t m e less f g is v h = ⊎_elim (λ below. get_or-set_other now t v m 0 (omega arith) ∙ f v below) (λ same. at same) (below-or-is v t h)
  where
    at : v ≡ t → slice_index_or (slice_set now t m) v 0 ≡ max (slice_index_or old v 0) (slice_index_or other v 0)
    at same =
        ap (λ (n : ℕ). slice_index_or (slice_set now t m) n 0) same
        ∙ (get_or-set_same now t m 0 (omega arith)
        ∙ (is ∙ (ap (λ (n : ℕ). max n (slice_index_or other t 0)) (g t (omega arith)) ∙ ap (λ (n : ℕ). max (slice_index_or old n 0) (slice_index_or other n 0)) (sym same))))

pub joined-rest : (now old : List ℕ) (t m : ℕ) → ((v : ℕ) → t ≤ v → slice_index_or now v 0 ≡ slice_index_or old v 0) → (v : ℕ) → t + 1 ≤ v → slice_index_or (slice_set now t m) v 0 ≡ slice_index_or old v 0
joined-rest now old t m g v h = get_or-set_other now t v m 0 (omega arith) ∙ g v (omega arith)

pub joined-all : (now old other : List ℕ) (t : ℕ) → length now ≡ 16 → length other ≡ 16 → 16 ≤ t → ((v : ℕ) → v < t → slice_index_or now v 0 ≡ max (slice_index_or old v 0) (slice_index_or other v 0)) → ((v : ℕ) → t ≤ v → slice_index_or now v 0 ≡ slice_index_or old v 0) → (v : ℕ) → slice_index_or now v 0 ≡ max (slice_index_or old v 0) (slice_index_or other v 0)
joined-all now old other t e d long f g v = by (nat_lt v t) refl
  where
    by : (b : Bool) → nat_lt v t ≡ b → slice_index_or now v 0 ≡ max (slice_index_or old v 0) (slice_index_or other v 0)
    by true h = f v (ltb-true v t h)
    by false h =
        let far : t ≤ v = grind (arith, h) in
        let zero_now = past-end now v 16 e (omega arith) in
        let zero_other = past-end other v 16 d (omega arith) in
        let same = g v far in
        zero_now ∙ ap₂ max (sym zero_now ∙ same) (sym zero_other)

-- ---- the greatest of those beyond

module _ (mine past : List ℕ) (t latest mark next : ℕ) where
  mark-cases : mark ≡ (if nat_lt (slice_index_or past t 0) (slice_index_or mine t 0) then slice_index_or mine t 0 else 0) → ((slice_index_or past t 0 < slice_index_or mine t 0) × (mark ≡ slice_index_or mine t 0)) ⊎ ((slice_index_or mine t 0 ≤ slice_index_or past t 0) × (mark ≡ 0))
  mark-cases is = by (nat_lt (slice_index_or past t 0) (slice_index_or mine t 0)) refl is
    where
      by : (b : Bool) → nat_lt (slice_index_or past t 0) (slice_index_or mine t 0) ≡ b → mark ≡ (if b then slice_index_or mine t 0 else 0) → ((slice_index_or past t 0 < slice_index_or mine t 0) × (mark ≡ slice_index_or mine t 0)) ⊎ ((slice_index_or mine t 0 ≤ slice_index_or past t 0) × (mark ≡ 0))
      by true e f = inl (ltb-true _ _ e, f)
      by false e f = inr (grind (arith, e), f)

  pub above-more : ((v : ℕ) → v < t → (slice_index_or mine v 0 ≤ slice_index_or past v 0) ⊎ (slice_index_or mine v 0 ≤ latest)) → mark ≡ (if nat_lt (slice_index_or past t 0) (slice_index_or mine t 0) then slice_index_or mine t 0 else 0) → next ≡ max latest mark
      → (v : ℕ) → v < t + 1 → (slice_index_or mine v 0 ≤ slice_index_or past v 0) ⊎ (slice_index_or mine v 0 ≤ next)
  above-more f is e v h = ⊎_elim (λ below. ⊎_elim inl (λ g. inr (omega (arith, g, left, e))) (f v below)) (λ same. at same (mark-cases is)) (below-or-is v t h)
    where
      left : latest ≤ max latest mark
      left = le-max_left latest mark

      right : mark ≤ max latest mark
      right = le-max_right latest mark

      at : v ≡ t → ((slice_index_or past t 0 < slice_index_or mine t 0) × (mark ≡ slice_index_or mine t 0)) ⊎ ((slice_index_or mine t 0 ≤ slice_index_or past t 0) × (mark ≡ 0)) → (slice_index_or mine v 0 ≤ slice_index_or past v 0) ⊎ (slice_index_or mine v 0 ≤ next)
      at same (inl g) = let f = ap (λ (n : ℕ). slice_index_or mine n 0) same in inr (omega (arith, f, g.1, right, e))
      at same (inr g) = let f = ap (λ (n : ℕ). slice_index_or mine n 0) same in let d = ap (λ (n : ℕ). slice_index_or past n 0) same in inl (omega (arith, f, d, g.0))

  max-is : (next ≡ max latest mark) → (next ≡ latest) ⊎ (next ≡ mark)
  max-is e = grind (arith, e)

  pub found-more : (latest ≡ 0) ⊎ ((v : ℕ) × (latest ≡ slice_index_or mine v 0) × (slice_index_or past v 0 < latest)) → mark ≡ (if nat_lt (slice_index_or past t 0) (slice_index_or mine t 0) then slice_index_or mine t 0 else 0) → next ≡ max latest mark
      → (next ≡ 0) ⊎ ((v : ℕ) × (next ≡ slice_index_or mine v 0) × (slice_index_or past v 0 < next))
  found-more f is e = by f (max-is e) (mark-cases is)
    where
      by : (latest ≡ 0) ⊎ ((v : ℕ) × (latest ≡ slice_index_or mine v 0) × (slice_index_or past v 0 < latest)) → (next ≡ latest) ⊎ (next ≡ mark) → ((slice_index_or past t 0 < slice_index_or mine t 0) × (mark ≡ slice_index_or mine t 0)) ⊎ ((slice_index_or mine t 0 ≤ slice_index_or past t 0) × (mark ≡ 0)) → (next ≡ 0) ⊎ ((v : ℕ) × (next ≡ slice_index_or mine v 0) × (slice_index_or past v 0 < next))
      by (inl z) (inl d) c = inl (d ∙ z)
      by (inr w) (inl d) c = inr (w.0, d ∙ w.1, (let less = w.2 in omega (arith, less, d)))
      by z (inr d) (inl c) = inr (t, d ∙ c.1, omega (arith, c.0, c.1, d))
      by z (inr d) (inr c) = inl (d ∙ c.1)

pub above-all : (mine past : List ℕ) (t latest : ℕ) → length mine ≡ 16 → 16 ≤ t → ((v : ℕ) → v < t → (slice_index_or mine v 0 ≤ slice_index_or past v 0) ⊎ (slice_index_or mine v 0 ≤ latest)) → (v : ℕ) → (slice_index_or mine v 0 ≤ slice_index_or past v 0) ⊎ (slice_index_or mine v 0 ≤ latest)
above-all mine past t latest e long f v = by (nat_lt v t) refl
  where
    by : (b : Bool) → nat_lt v t ≡ b → (slice_index_or mine v 0 ≤ slice_index_or past v 0) ⊎ (slice_index_or mine v 0 ≤ latest)
    by true h = f v (ltb-true v t h)
    by false h = let far : t ≤ v = grind (arith, h) in let z = past-end mine v 16 e (omega arith) in inr (omega arith)
