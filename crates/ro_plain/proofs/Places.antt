-- Elements of lists, also of those that are changed in one place or made longer by one.
use Rattle.std.specs.Prelude.{◌≡◌, ◌≢◌, ℕ, zero, suc, ◌<◌, ◌⊎◌, List, [], ◌∷◌, ◌++◌, length, Some, None, slice_get, slice_set}
use Rattle.std.proofs.Common.{refl, ap, arith, inl, inr}
use Rattle.ro_plain.proofs.Calls.{some-injective}

-- below the length there is an element
pub get-within : {X : Type 0} (xs : List X) (i : ℕ) → i < length xs → (x : X) × (slice_get xs i ≡ Some x)
get-within [] i h = absurd (omega arith)
get-within (x ∷ xs) zero h = (x, refl)
get-within (x ∷ xs) (suc i) h = get-within xs i (omega arith)

-- the element that was set
pub get-set-same : {X : Type 0} (xs : List X) (i : ℕ) (x y : X) → slice_get xs i ≡ Some x → slice_get (slice_set xs i y) i ≡ Some y
get-set-same [] i x y h = absurd (let e : None ≡ Some x = h in cc)
get-set-same (z ∷ xs) zero x y h = refl
get-set-same (z ∷ xs) (suc i) x y h = get-set-same xs i x y h

-- an element of a list in which one is replaced
pub get-set-cases : {X : Type 0} (xs : List X) (t i : ℕ) (x y : X) → slice_get (slice_set xs t x) i ≡ Some y → ((i ≢ t) × (slice_get xs i ≡ Some y)) ⊎ ((i ≡ t) × (x ≡ y))
get-set-cases [] t i x y h = absurd (let e : None ≡ Some y = h in cc)
get-set-cases (z ∷ xs) zero zero x y h = inr (refl, some-injective h)
get-set-cases (z ∷ xs) zero (suc i) x y h = inl ((λ (e : suc i ≡ 0). omega arith), h)
get-set-cases (z ∷ xs) (suc t) zero x y h = inl ((λ (e : 0 ≡ suc t). omega arith), h)
get-set-cases (z ∷ xs) (suc t) (suc i) x y h = by (get-set-cases xs t i x y h)
  where
    by : ((i ≢ t) × (slice_get xs i ≡ Some y)) ⊎ ((i ≡ t) × (x ≡ y)) → ((suc i ≢ suc t) × (slice_get xs i ≡ Some y)) ⊎ ((suc i ≡ suc t) × (x ≡ y))
    by (inl e) = inl ((λ (g : suc i ≡ suc t). e.0 (omega arith)), e.1)
    by (inr e) = inr (ap suc e.0, e.1)

-- an element of a list with one more is an old one or the new one
pub get-append-cases : {X : Type 0} (xs : List X) (y : X) (i : ℕ) (x : X) → slice_get (xs ++ y ∷ []) i ≡ Some x → (slice_get xs i ≡ Some x) ⊎ ((i ≡ length xs) × (y ≡ x))
get-append-cases [] y zero x h = inr (refl, some-injective h)
get-append-cases [] y (suc i) x h = absurd (let e : None ≡ Some x = h in cc)
get-append-cases (z ∷ xs) y zero x h = inl h
get-append-cases (z ∷ xs) y (suc i) x h = by (get-append-cases xs y i x h)
  where
    by : (slice_get xs i ≡ Some x) ⊎ ((i ≡ length xs) × (y ≡ x)) → (slice_get xs i ≡ Some x) ⊎ ((suc i ≡ suc (length xs)) × (y ≡ x))
    by (inl e) = inl e
    by (inr e) = inr (ap suc e.0, e.1)
