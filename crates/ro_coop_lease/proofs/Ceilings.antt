-- What was got below the ceilings is not too far ahead.
use Rattle.std.specs.Prelude.{◌≡◌, ℕ, suc, ◌==◌, Bool, true, false, not, cond, nat_lt, List, [], ◌∷◌, Option, Some, None, slice_get, slice_index_or}
use Rattle.std.specs.List.{list_all}
use Rattle.std.specs.Option.{option_map}
use Rattle.std.proofs.Common.{refl, sym, ap, ◌∙◌, subst, arith}
use Rattle.std.proofs.lemmas.Bool.{eqb-true, and_from, and_parts, lt-ltb, not-true}
use Rattle.ro_peer.specs.declared.mutexes.Mutex.{Mutex}
use Rattle.ro_peer.specs.Gets.{Get}
use Rattle.ro_peer.specs.Seen.{number_of}
use Rattle.ro_legal.specs.Sides.{Side, is_ahead}
use Rattle.ro_legal.specs.Core.{Core}
use Rattle.ro_legal.specs.Kept.{NoFurtherAhead}
use Rattle.ro_locking.specs.Got.{IsBelow, AreBelow}
use Rattle.ro_coop_core.specs.Seen.{AreCeilings}

-- a mutex by its number
pub record Numbered (mutexes : List Mutex) (address number : ℕ) : Type 0 where
  pub mutex : Mutex
  pub there : slice_get mutexes number ≡ Some mutex
  pub address_is : mutex.address ≡ address

pub numbered : (mutexes : List Mutex) (address number : ℕ) → number_of mutexes address ≡ Some number → Numbered mutexes address number
numbered [] address number e = absurd (let f : None ≡ Some number = e in cc)
numbered (m ∷ mutexes) address number e = by (m.address == address) refl (number_of mutexes address) e (λ k. numbered mutexes address k)
  where
    by : (b : Bool) → (m.address == address) ≡ b → (o : Option ℕ) → cond b (Some 0) (option_map suc o) ≡ Some number → ((k : ℕ) → o ≡ Some k → Numbered mutexes address k) → Numbered (m ∷ mutexes) address number
    by true is o e rest =
        let first : 0 ≡ number = cc in
        subst (Numbered (m ∷ mutexes) address) first (record { mutex = m; there = refl; address_is = eqb-true m.address address is })
    by false is None e rest = absurd (let f : None ≡ Some number = e in cc)
    by false is (Some k) e rest =
        let later : suc k ≡ number = cc in
        let its = rest k refl in
        subst (Numbered (m ∷ mutexes) address) later (record { mutex = its.mutex; there = its.there; address_is = its.address_is })

-- where the mutexes have their ceilings
pub all-within : (core : Core) (side : Side) (thread : ℕ) (later : List Side) (ceilings : List ℕ) → AreCeilings core side thread ceilings → NoFurtherAhead core.sides later → (gets : List Get) → AreBelow side.mutexes ceilings gets → list_all (λ get. not (is_ahead later get.mutex get.rank)) gets ≡ true
all-within core side thread later ceilings are grow [] below = refl
all-within core side thread later ceilings are grow (get ∷ gets) (here, below) =
    and_from _ _ (ap not (grow get.mutex get.rank (not-true (is_ahead core.sides get.mutex get.rank) (by here)))) (all-within core side thread later ceilings are grow gets below)
  where
    by : IsBelow side.mutexes ceilings get → not (is_ahead core.sides get.mutex get.rank) ≡ true
    by (number, is, less) =
        let m = numbered side.mutexes get.mutex number is in
        let below : nat_lt get.rank (slice_index_or ceilings number 0) ≡ true = lt-ltb get.rank (slice_index_or ceilings number 0) (omega arith) in
        ap (λ (a : ℕ). not (is_ahead core.sides a get.rank)) (sym m.address_is)
        ∙ (and_parts (not (is_ahead core.sides m.mutex.address get.rank)) _ (sym (are number get.rank m.mutex m.there (omega arith)) ∙ below)).0
