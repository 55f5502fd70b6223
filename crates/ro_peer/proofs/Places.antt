-- Mutexes by their addresses and by their numbers.
use Rattle.std.specs.Prelude.{◌≡◌, ℕ, zero, suc, ◌<◌, Bool, true, false, cond, ◌==◌, List, [], ◌∷◌, length, Option, Some, None, slice_get}
use Rattle.std.specs.Option.{option_map}
use Rattle.std.proofs.Common.{refl, ap, ◌∙◌, arith}
use Rattle.ro_replica.specs.Replica.{changed_at}
use Rattle.ro_peer.specs.declared.mutexes.Mutex.{Mutex}
use Rattle.ro_peer.specs.Peers.{mutex_in, mutex_after, with_mutex}
use Rattle.ro_peer.specs.Seen.{number_of}

-- a mutex with a number is at its place
pub at_its_number : (mutexes : List Mutex) (address number : ℕ) (m : Mutex) → number_of mutexes address ≡ Some number → slice_get mutexes number ≡ Some m → mutex_in mutexes address ≡ Some m
at_its_number [] address number m e h = absurd (cc)
at_its_number (first ∷ mutexes) address number m e h = by (first.address == address) (number_of mutexes address) refl (λ k. at_its_number mutexes address k m) number e h
  where
    by : (b : Bool) (o : Option ℕ) → number_of mutexes address ≡ o → ((k : ℕ) → number_of mutexes address ≡ Some k → slice_get mutexes k ≡ Some m → mutex_in mutexes address ≡ Some m) → (number : ℕ) → cond b (Some 0) (option_map suc o) ≡ Some number → slice_get (first ∷ mutexes) number ≡ Some m → cond b (Some first) (mutex_in mutexes address) ≡ Some m
    by true o n rest zero e h = h
    by true o n rest (suc k) e h = absurd (let bad : 0 ≡ suc k = cc in omega arith)
    by false None n rest k e h = absurd (cc)
    by false (Some i) n rest zero e h = absurd (let bad : suc i ≡ 0 = cc in omega arith)
    by false (Some i) n rest (suc k) e h = let same : suc i ≡ suc k = cc in let is : i ≡ k = omega arith in rest k (n ∙ ap Some is) h

-- one without a number is none
pub without_number : (mutexes : List Mutex) (address : ℕ) → number_of mutexes address ≡ None → mutex_in mutexes address ≡ None
without_number [] address e = refl
without_number (first ∷ mutexes) address e = by (first.address == address) (number_of mutexes address) (without_number mutexes address) e
  where
    by : (b : Bool) (o : Option ℕ) → (o ≡ None → mutex_in mutexes address ≡ None) → cond b (Some 0) (option_map suc o) ≡ None → cond b (Some first) (mutex_in mutexes address) ≡ None
    by true o rest e = absurd (cc)
    by false None rest e = rest refl
    by false (Some i) rest e = absurd (cc)

pub number_within : (mutexes : List Mutex) (address number : ℕ) → number_of mutexes address ≡ Some number → number < length mutexes
number_within [] address number e = absurd (cc)
number_within (first ∷ mutexes) address number e = by (first.address == address) (number_of mutexes address) (number_within mutexes address) e
  where
    by : (b : Bool) (o : Option ℕ) → ((k : ℕ) → o ≡ Some k → k < length mutexes) → cond b (Some 0) (option_map suc o) ≡ Some number → number < suc (length mutexes)
    by true o rest e = let same : 0 ≡ number = cc in omega arith
    by false None rest e = absurd (cc)
    by false (Some i) rest e = let same : suc i ≡ number = cc in let below : i < length mutexes = rest i refl in omega arith

-- a change at its place is one at its address
pub changed_there : (change : Option (Option ℕ)) (mutexes : List Mutex) (address number : ℕ) → number_of mutexes address ≡ Some number → changed_at (mutex_after change) mutexes number ≡ with_mutex mutexes address change
changed_there change [] address number e = refl
changed_there change (first ∷ mutexes) address number e = by (first.address == address) (number_of mutexes address) refl (changed_there change mutexes address) number e
  where
    by : (b : Bool) (o : Option ℕ) → number_of mutexes address ≡ o → ((k : ℕ) → number_of mutexes address ≡ Some k → changed_at (mutex_after change) mutexes k ≡ with_mutex mutexes address change) → (number : ℕ) → cond b (Some 0) (option_map suc o) ≡ Some number → changed_at (mutex_after change) (first ∷ mutexes) number ≡ cond b (mutex_after change first ∷ mutexes) (first ∷ with_mutex mutexes address change)
    by true o n rest zero e = refl
    by true o n rest (suc k) e = absurd (let bad : 0 ≡ suc k = cc in omega arith)
    by false None n rest k e = absurd (cc)
    by false (Some i) n rest zero e = absurd (let bad : suc i ≡ 0 = cc in omega arith)
    by false (Some i) n rest (suc k) e = let same : suc i ≡ suc k = cc in let is : i ≡ k = omega arith in ap {B = List _} (λ ms. first ∷ ms) (rest k (n ∙ ap Some is))

-- a change leaves the address
pub after_address : (change : Option (Option ℕ)) (m : Mutex) → (mutex_after change m).address ≡ m.address
after_address None m = refl
after_address (Some owner) m = refl

-- and so the numbers
pub numbers_kept : (change : Option (Option ℕ)) (mutexes : List Mutex) (address other : ℕ) → number_of (with_mutex mutexes address change) other ≡ number_of mutexes other
numbers_kept change [] address other = refl
numbers_kept change (first ∷ mutexes) address other = by (first.address == address) (numbers_kept change mutexes address other)
  where
    by : (b : Bool) → number_of (with_mutex mutexes address change) other ≡ number_of mutexes other → number_of (cond b (mutex_after change first ∷ mutexes) (first ∷ with_mutex mutexes address change)) other ≡ number_of (first ∷ mutexes) other
    by true rest = ap (λ (a : ℕ). cond (a == other) (Some 0) (option_map suc (number_of mutexes other))) (after_address change first)
    by false rest = ap (λ (o : Option ℕ). cond (first.address == other) (Some 0) (option_map suc o)) rest
