-- Below which ranks a lease may get the mutexes of its peer: not too far ahead, and not where another thread waits.
use Rattle.std.proofs.Common.{◌≡◌, ◌≢◌, ◌⊎◌, inl, inr, ℕ, ◌+◌, ◌^◌, ◌<◌, Bool, true, false, not, cond, ◌&&◌, ◌||◌, List, length, Option, Some, refl, sym, ap, ◌∙◌, subst, arith}
use Rattle.std.specs.Prelude.{◌==◌, min, nat_le, nat_lt, slice_get, slice_set, slice_index_or}
use Rattle.std.specs.Option.{option_map_or}
use Rattle.std.proofs.lemmas.Bool.{cases_eq, eqb-true, eq-eqb}
use Rattle.std.proofs.lemmas.List.{get_or-set_same, get_or-set_other}
use Rattle.std.proofs.lemmas.Option.{slice_get_within}
use Rattle.ro_plain.proofs.Calls.{some-injective}
use Rattle.ro_peer.specs.declared.mutexes.Mutex.{Mutex}
use Rattle.ro_peer.specs.Seen.{number_of}
use Rattle.ro_legal.specs.declared.parkings.Parking.{Parking}
use Rattle.ro_legal.specs.Sides.{Side, is_ahead, has_asked}
use Rattle.ro_legal.specs.Core.{Core, any_below, waits_beside, first_given_up}
use Rattle.ro_legal.proofs.Awaited.{any-more, awaited-is}
use Rattle.ro_legal.proofs.Lists.{get-map-there}
use Rattle.ro_coop_core.specs.declared.seats.Seat.{Seat}
use Rattle.ro_coop_core.specs.Seats.{EachIsCeiling, AreLowered, KnowEach, KnowsParked}
use Rattle.ro_coop_core.specs.Seen.{AreCeilings}
use Rattle.ro_coop_core.proofs.Barred.{address-at}
use Rattle.ro_coop_core.proofs.Takes.{read-seat}

-- ---- one thread after another

-- below a mutex's ceiling are the ranks that are not too far ahead, and that aren't given up for a thread below n
abbrev pub LoweredBelow : Core → Side → (thread n : ℕ) → List ℕ → Type 0
LoweredBelow core side thread n ceilings =
    (number rank : ℕ) (mutex : Mutex) → slice_get side.mutexes number ≡ Some mutex → rank < 2 ^ 32
    → nat_lt rank (slice_index_or ceilings number 0) ≡ (not (is_ahead core.sides mutex.address rank) && not (any_below n (waits_beside side thread mutex.address mutex.rank) && nat_le (first_given_up core thread mutex) rank))

lt-min : (r a b : ℕ) → nat_lt r (min a b) ≡ (nat_lt r a && nat_lt r b)
lt-min r a b = grind arith

not-le : (a b : ℕ) → nat_lt b a ≡ not (nat_le a b)
not-le a b = grind arith

and-true : (b : Bool) → b ≡ (b && true)
and-true true = refl
and-true false = refl

-- one more that waits
lowers : (rank old first new : ℕ) (ahead before here : Bool) → new ≡ cond here (min old first) old → nat_lt rank old ≡ (not ahead && not (before && nat_le first rank))
    → nat_lt rank new ≡ (not ahead && not ((before || here) && nat_le first rank))
lowers rank old first new ahead before true is e =
    ap (nat_lt rank) is ∙ (lt-min rank old first ∙ (ap (λ (b : Bool). b && nat_lt rank first) e ∙ (ap (λ (b : Bool). (not ahead && not (before && nat_le first rank)) && b) (not-le first rank) ∙ all ahead before (nat_le first rank))))
  where
    all : (a b c : Bool) → ((not a && not (b && c)) && not c) ≡ (not a && not ((b || true) && c))
    all true b c = refl
    all false true true = refl
    all false true false = refl
    all false false true = refl
    all false false false = refl
lowers rank old first new ahead before false is e = ap (nat_lt rank) is ∙ (e ∙ ap (λ (b : Bool). not ahead && not (b && nat_le first rank)) (none before))
  where
    none : (b : Bool) → b ≡ (b || false)
    none true = refl
    none false = refl

module _ (core : Core) (side : Side) (thread : ℕ) where
  pub lowered-none : (ceilings : List ℕ) → EachIsCeiling core.sides side.mutexes ceilings → LoweredBelow core side thread 0 ceilings
  lowered-none ceilings each number rank mutex there small = each number mutex there rank small ∙ and-true (not (is_ahead core.sides mutex.address rank))

  pub lowered-more : (n : ℕ) (old new : List ℕ) → AreLowered core side thread n old new → LoweredBelow core side thread n old → LoweredBelow core side thread (n + 1) new
  lowered-more n old new lowered below number rank mutex there small =
      lowers rank (slice_index_or old number 0) (first_given_up core thread mutex) (slice_index_or new number 0) (is_ahead core.sides mutex.address rank) (any_below n (waits_beside side thread mutex.address mutex.rank)) (waits_beside side thread mutex.address mutex.rank n)
      (lowered number mutex there) (below number rank mutex there small)
      ∙ ap (λ (b : Bool). not (is_ahead core.sides mutex.address rank) && not (b && nat_le (first_given_up core thread mutex) rank)) (sym (any-more n (waits_beside side thread mutex.address mutex.rank)))

  -- a thread does not wait beside itself
  own-unlowered : (n : ℕ) (ceilings : List ℕ) → (n == thread) ≡ true → AreLowered core side thread n ceilings ceilings
  own-unlowered n ceilings own number mutex there =
      sym (ap (λ (b : Bool). cond (not b && option_map_or (λ parking. (parking.mutex == mutex.address) && not (has_asked parking mutex.rank)) (side.parked n) false) (min (slice_index_or ceilings number 0) (first_given_up core thread mutex)) (slice_index_or ceilings number 0)) own)

  pub lowered-own : (n : ℕ) (ceilings : List ℕ) → (n == thread) ≡ true → LoweredBelow core side thread n ceilings → LoweredBelow core side thread (n + 1) ceilings
  lowered-own n ceilings own below = lowered-more n ceilings ceilings (own-unlowered n ceilings own) below

  pub lowered-all : (n : ℕ) (ceilings : List ℕ) → n ≡ 16 → LoweredBelow core side thread n ceilings → AreCeilings core side thread ceilings
  lowered-all n ceilings all below number rank mutex there small =
      below number rank mutex there small
      ∙ ap (λ (b : Bool). not (is_ahead core.sides mutex.address rank) && not (b && nat_le (first_given_up core thread mutex) rank))
      (ap (λ (m : ℕ). any_below m (waits_beside side thread mutex.address mutex.rank)) all ∙ awaited-is side thread mutex.address mutex.rank)

  -- ---- one thread

  module _ (other : ℕ) (others : (other == thread) ≡ false) where
    -- whether it waits at a mutex, by where it came back
    waits-by : (mutex : Mutex) (o : Option Parking) → side.parked other ≡ o → option_map_or (λ parking. (parking.mutex == mutex.address) && not (has_asked parking mutex.rank)) o false ≡ waits_beside side thread mutex.address mutex.rank other
    waits-by mutex o e =
        ap (λ (p : Option Parking). option_map_or (λ parking. (parking.mutex == mutex.address) && not (has_asked parking mutex.rank)) p false) (sym e)
        ∙ ap (λ (b : Bool). not b && option_map_or (λ parking. (parking.mutex == mutex.address) && not (has_asked parking mutex.rank)) (side.parked other) false) (sym others)

    -- a ceiling that stays, of a mutex for which it doesn't wait
    stays : (old : ℕ) (mutex : Mutex) → waits_beside side thread mutex.address mutex.rank other ≡ false → old ≡ cond (waits_beside side thread mutex.address mutex.rank other) (min old (first_given_up core thread mutex)) old
    stays old mutex e = sym (ap (λ (b : Bool). cond b (min old (first_given_up core thread mutex)) old) e)

    module _ (seats : List Seat) (know : KnowEach core.sides seats side.mutexes) (parking : Parking) (parks : side.parked other ≡ Some parking) where
      -- a mutex at its address has its number
      at-number : (number : ℕ) (mutex : Mutex) → slice_get side.mutexes number ≡ Some mutex → (parking.mutex == mutex.address) ≡ true → number_of side.mutexes parking.mutex ≡ Some number
      at-number number mutex there e = ap (number_of side.mutexes) (eqb-true parking.mutex mutex.address e) ∙ know.numbered number mutex there

      elsewhere : (mutex : Mutex) → (parking.mutex == mutex.address) ≡ false → waits_beside side thread mutex.address mutex.rank other ≡ false
      elsewhere mutex e = sym (waits-by mutex (Some parking) parks) ∙ ap (λ (b : Bool). b && not (has_asked parking mutex.rank)) e

      waits-there : (mutex : Mutex) → (parking.mutex == mutex.address) ≡ true → (not (has_asked parking mutex.rank)) ≡ waits_beside side thread mutex.address mutex.rank other
      waits-there mutex e = sym (ap (λ (b : Bool). b && not (has_asked parking mutex.rank)) e) ∙ waits-by mutex (Some parking) parks

      module _ (place : ℕ) (mutex : Mutex) (numbered : number_of side.mutexes parking.mutex ≡ Some place) (there : slice_get side.mutexes place ≡ Some mutex) where
        -- another mutex than that one is at another address
        beside : (number : ℕ) (m : Mutex) → slice_get side.mutexes number ≡ Some m → number ≢ place → (parking.mutex == m.address) ≡ false
        beside number m e d = by (parking.mutex == m.address) refl
          where
            by : (b : Bool) → (parking.mutex == m.address) ≡ b → b ≡ false
            by false f = refl
            by true f = absurd (d (some-injective (sym (at-number number m e f) ∙ numbered)))

        -- and that one is the one
        same-mutex : (number : ℕ) (m : Mutex) → slice_get side.mutexes number ≡ Some m → number ≡ place → mutex ≡ m
        same-mutex number m e same = some-injective (sym there ∙ (ap (slice_get side.mutexes) (sym same) ∙ e))

        at : parking.mutex ≡ mutex.address
        at = some-injective (sym (address-at side.mutexes parking.mutex place numbered) ∙ get-map-there (λ (m : Mutex). m.address) side.mutexes place mutex there)

        pub lowers-it : (old new : List ℕ) → length old ≡ length side.mutexes → has_asked parking mutex.rank ≡ false → new ≡ slice_set old place (min (slice_index_or old place 0) (first_given_up core thread mutex)) → AreLowered core side thread other old new
        lowers-it old new many unasked is number m e = by (cases_eq number place)
          where
            waits : number ≡ place → waits_beside side thread m.address m.rank other ≡ true
            waits same =
                let one : mutex ≡ m = same-mutex number m e same in
                sym (waits-there m (eq-eqb parking.mutex m.address (at ∙ ap (λ (x : Mutex). x.address) one))) ∙ ap not (ap (λ (x : Mutex). has_asked parking x.rank) (sym one) ∙ unasked)

            by : (number ≡ place) ⊎ (number ≢ place) → slice_index_or new number 0 ≡ cond (waits_beside side thread m.address m.rank other) (min (slice_index_or old number 0) (first_given_up core thread m)) (slice_index_or old number 0)
            by (inl same) =
                let lowered : ℕ = min (slice_index_or old number 0) (first_given_up core thread m) in
                let within : number < length old = (let less = slice_get_within side.mutexes number m e in omega arith) in
                ap (λ (xs : List ℕ). slice_index_or xs number 0) (is ∙ (ap (λ (n : ℕ). slice_set old n (min (slice_index_or old n 0) (first_given_up core thread mutex))) (sym same) ∙ ap (λ (x : Mutex). slice_set old number (min (slice_index_or old number 0) (first_given_up core thread x))) (same-mutex number m e same)))
                ∙ (get_or-set_same old number lowered 0 within
                ∙ sym (ap (λ (b : Bool). cond b (min (slice_index_or old number 0) (first_given_up core thread m)) (slice_index_or old number 0)) (waits same)))
            by (inr d) =
                ap (λ (xs : List ℕ). slice_index_or xs number 0) is
                ∙ (get_or-set_other old place number (min (slice_index_or old place 0) (first_given_up core thread mutex)) 0 d
                ∙ stays (slice_index_or old number 0) m (elsewhere m (beside number m e d)))

-- what was read of a seat
pub read-parked : (seats : List Seat) (place : ℕ) (read seat : Seat) (side : Side) → place < length seats → read ≡ slice_index_or seats place read → slice_get seats place ≡ Some seat → KnowsParked seat side → KnowsParked read side
read-parked seats place read seat side within is there = subst (λ (s : Seat). KnowsParked s side) (some-injective (sym there ∙ read-seat seats place read within is))
