-- For whom a thread gives way at a lock.
use Rattle.std.specs.Prelude.{◌≡◌, ℕ, zero, suc, ◌+◌, ◌<◌, Bool, true, false, not, ◌&&◌, ◌||◌, ◌==◌, Option, Some, None}
use Rattle.std.specs.Option.{option_map_or}
use Rattle.std.proofs.Common.{refl, sym, ap, ◌∙◌, ⊎_elim, arith}
use Rattle.std.proofs.lemmas.Bool.{false≢true, eqb-true, and_parts, or_cases}
use Rattle.ro_legal.specs.Sides.{Parking, Side, has_asked}
use Rattle.ro_legal.specs.Core.{any_below, most_threads, waits_beside, is_awaited}
use Rattle.ro_legal.proofs.Leases.{not_false}
use Rattle.ro_legal.proofs.Nexts.{never_below}

-- ---- numbers below n

any-of : (n : ℕ) (test : ℕ → Bool) → any_below n test ≡ true → (k : ℕ) × (test k ≡ true)
any-of zero test e = absurd (false≢true e)
any-of (suc n) test e = ⊎_elim (λ (f : any_below n test ≡ true). any-of n test f) (λ (f : test n ≡ true). (n, f)) (or_cases (any_below n test) (test n) e)

any-there : (n : ℕ) (test : ℕ → Bool) (k : ℕ) → k < n → test k ≡ true → any_below n test ≡ true
any-there n test k less e = by (any_below n test) refl
  where
    by : (b : Bool) → any_below n test ≡ b → b ≡ true
    by true f = refl
    by false f = absurd (false≢true (sym (never_below n test f k less) ∙ e))

pub any-more : (n : ℕ) (test : ℕ → Bool) → any_below (n + 1) test ≡ (any_below n test || test n)
any-more n test = ap (λ (m : ℕ). any_below m test) (let next : n + 1 ≡ suc n = omega arith in next)

-- ---- who waits

pub awaited-is : (side : Side) (thread mutex rank : ℕ) → any_below most_threads (waits_beside side thread mutex rank) ≡ is_awaited side thread mutex rank
unfolding is_awaited
awaited-is side thread mutex rank = refl

pub awaited-there : (side : Side) (thread mutex rank other : ℕ) → other < 16 → waits_beside side thread mutex rank other ≡ true → is_awaited side thread mutex rank ≡ true
awaited-there side thread mutex rank other less e = sym (awaited-is side thread mutex rank) ∙ any-there most_threads (waits_beside side thread mutex rank) other less e

-- a thread that came back at the mutex and has not asked for the rank
pub record Waiting (side : Side) (mutex rank : ℕ) : Type 0 where
  pub other : ℕ
  pub parking : Parking
  pub parked : side.parked other ≡ Some parking
  pub on : parking.mutex ≡ mutex
  pub unasked : has_asked parking rank ≡ false

pub awaited-by : (side : Side) (thread mutex rank : ℕ) → is_awaited side thread mutex rank ≡ true → Waiting side mutex rank
awaited-by side thread mutex rank e =
    let one = any-of most_threads (waits_beside side thread mutex rank) (awaited-is side thread mutex rank ∙ e) in
    by one.0 (side.parked one.0) refl (and_parts (not (one.0 == thread)) _ one.1).1
  where
    by : (other : ℕ) (o : Option Parking) → side.parked other ≡ o → option_map_or (λ parking. (parking.mutex == mutex) && not (has_asked parking rank)) o false ≡ true → Waiting side mutex rank
    by other None f g = absurd (false≢true g)
    by other (Some parking) f g =
        let parts = and_parts (parking.mutex == mutex) (not (has_asked parking rank)) g in
        record { other = other; parking = parking; parked = f; on = eqb-true parking.mutex mutex parts.0; unasked = not_false (has_asked parking rank) parts.1 }
