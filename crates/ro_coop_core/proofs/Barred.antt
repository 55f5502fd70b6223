-- For whom a rank of a mutex is, from a core's fields.
use Rattle.std.proofs.Common.{◌≡◌, ℕ, suc, zero, ◌<◌, Bool, true, false, not, cond, ◌&&◌, ◌||◌, List, [], ◌∷◌, length, Option, Some, None, refl, sym, ap, ◌∙◌, arith}
use Rattle.std.specs.Prelude.{◌==◌, nat_lt, is_some, slice_get}
use Rattle.std.specs.Option.{option_map, option_map_or}
use Rattle.std.proofs.Math.Dec.{leb}
use Rattle.std.proofs.lemmas.Bool.{and_parts, eqb-true, le-leb, le-ltb, ltb-false, ltb-true}
use Rattle.ro_peer.specs.declared.mutexes.Mutex.{Mutex}
use Rattle.ro_peer.specs.Peers.{mutex_in}
use Rattle.ro_peer.specs.Seen.{number_of}
use Rattle.ro_peer.proofs.Places.{at_its_number, without_number}
use Rattle.ro_legal.specs.declared.parkings.Parking.{Parking}
use Rattle.ro_legal.specs.Sides.{Side, taker_of, rank_in, is_ahead, has_asked}
use Rattle.ro_legal.specs.Core.{Core, any_below, waits_beside, nothing_lent, is_awaited, is_barred, is_kept}
use Rattle.ro_legal.specs.Kept.{addresses_of, cooperative_in}
use Rattle.ro_legal.proofs.Awaited.{awaited-is}
use Rattle.ro_coop_core.specs.Seats.{KnowMutex, AreNumbered, AreNear}
use Rattle.ro_coop_core.specs.Fields.{Fields, core_in, Holds}
use Rattle.ro_coop_core.specs.Numbers.{HasMutexes, HasRank}
use Rattle.ro_coop_core.proofs.Keeping.{keeps-replicas, keeps-mutexes}
use Rattle.ro_coop_core.proofs.Numbered.{all-numbered, know-mutex}

-- ---- lists of mutexes

-- a mutex with a number stands there
pub address-at : (mutexes : List Mutex) (address number : ℕ) → number_of mutexes address ≡ Some number → slice_get (addresses_of mutexes) number ≡ Some address
address-at [] address number e = absurd (cc)
address-at (first ∷ mutexes) address number e = by (first.address == address) (number_of mutexes address) refl refl (address-at mutexes address) number e
  where
    by : (b : Bool) (o : Option ℕ) → (first.address == address) ≡ b → number_of mutexes address ≡ o → ((k : ℕ) → number_of mutexes address ≡ Some k → slice_get (addresses_of mutexes) k ≡ Some address) → (number : ℕ) → cond b (Some 0) (option_map suc o) ≡ Some number → slice_get (addresses_of (first ∷ mutexes)) number ≡ Some address
    by true o t n rest zero e = ap (λ (a : ℕ). Some a) (eqb-true first.address address t)
    by true o t n rest (suc k) e = absurd (let bad : 0 ≡ suc k = cc in omega arith)
    by false None t n rest k e = absurd (cc)
    by false (Some i) t n rest zero e = absurd (let bad : suc i ≡ 0 = cc in omega arith)
    by false (Some i) t n rest (suc k) e = let same : suc i ≡ suc k = cc in let is : i ≡ k = omega arith in rest k (n ∙ ap (λ (m : ℕ). Some m) is)

-- a list that is as long has an element there
some-at : {X Y : Type 0} (xs : List X) (ys : List Y) (n : ℕ) (x : X) → length xs ≡ length ys → slice_get xs n ≡ Some x → (y : Y) × (slice_get ys n ≡ Some y)
some-at [] ys n x same e = absurd (cc)
some-at (a ∷ xs) [] n x same e = absurd (omega arith)
some-at (a ∷ xs) (b ∷ ys) zero x same e = (b, refl)
some-at (a ∷ xs) (b ∷ ys) (suc n) x same e = some-at xs ys n x (omega arith) e

-- ---- a mutex of some replica

module _ (f : Fields) (h : Holds f) (number address rank : ℕ) (has : HasRank (core_in f) number address rank) where
  abbrev own : Side
  own = has.had.side

  -- among those that are cooperative it has that number
  listed : slice_get (cooperative_in f.job.program (core_in f).kernel.owners) number ≡ Some address
  listed =
      let counts = keeps-replicas f h in
      let replica = some-at (core_in f).sides (core_in f).replicas has.had.place own (counts.side_count ∙ sym counts.replica_count) has.had.there in
      let counted = (keeps-mutexes f h).counted has.had.place replica.0 own replica.1 has.had.there in
      ap (λ (addresses : List ℕ). slice_get addresses number) (sym counted.answers_for ∙ ap addresses_of has.had.are) ∙ address-at has.mutexes address number has.numbered

  pub seats-numbered : AreNumbered number address (core_in f).sides f.seats
  seats-numbered = all-numbered f.job (core_in f) f.seats h.seats_are (keeps-replicas f h) (keeps-mutexes f h) number address listed

  pub seats-know : KnowMutex number f.seats
  seats-know = know-mutex number address (core_in f).sides f.seats seats-numbered

  pub are-near : AreNear address rank (core_in f).sides
  are-near place side there =
      let apart = (keeps-mutexes f h).apart place has.had.place side own there has.had.there address in
      let ranked : rank_in own.mutexes address ≡ rank = ap (λ (ms : List Mutex). rank_in ms address) has.had.are ∙ has.ranked in
      omega arith

-- ---- the tests

-- who got the rank decides
pub barred-by : (core : Core) (side : Side) (thread address rank : ℕ) (taker : Option ℕ) → taker ≡ taker_of core.sides address rank
    → option_map_or (λ taker. not (taker == thread)) taker (is_ahead core.sides address rank || is_awaited side thread address rank || not (nothing_lent core)) ≡ is_barred core side thread address rank
barred-by core side thread address rank taker e =
    ap (λ (o : Option ℕ). option_map_or (λ taker. not (taker == thread)) o (is_ahead core.sides address rank || is_awaited side thread address rank || not (nothing_lent core))) e

-- no thread waits
pub none-awaits : (side : Side) (thread mutex rank n : ℕ) → n ≡ 16 → any_below n (waits_beside side thread mutex rank) ≡ false → false ≡ is_awaited side thread mutex rank
none-awaits side thread mutex rank n all e = sym e ∙ (ap (λ (m : ℕ). any_below m (waits_beside side thread mutex rank)) all ∙ awaited-is side thread mutex rank)

-- a rank at the ceiling or above it is too far ahead
pub not-below : (ceiling rank : ℕ) (ahead : Bool) → nat_lt rank ceiling ≡ not ahead → leb ceiling rank ≡ ahead
not-below ceiling rank true e = le-leb ceiling rank (ltb-false rank ceiling e)
not-below zero rank false e = absurd (let less : rank < 0 = ltb-true rank 0 e in omega arith)
not-below (suc c) rank false e = le-ltb c rank (let less : rank < suc c = ltb-true rank (suc c) e in omega arith)

-- a thread that came back at a mutex for which the replica does not answer
pub kept-none : (core : Core) (side : Side) (mutexes : List Mutex) (thread : ℕ) (parking : Parking) → side.mutexes ≡ mutexes → number_of mutexes parking.mutex ≡ None → false ≡ is_kept core side thread parking
kept-none core side mutexes thread parking same none =
    sym (ap (λ (o : Option Mutex). option_map_or (λ mutex. is_some mutex.owner || has_asked parking mutex.rank && is_barred core side thread parking.mutex parking.rank) o false)
    (ap (λ (ms : List Mutex). mutex_in ms parking.mutex) same ∙ without_number mutexes parking.mutex none))

-- and at one for which it does
pub kept-some : (core : Core) (side : Side) (mutexes : List Mutex) (thread number : ℕ) (parking : Parking) (mutex : Mutex) → side.mutexes ≡ mutexes → number_of mutexes parking.mutex ≡ Some number → slice_get mutexes number ≡ Some mutex
    → (owned asks barred : Bool) → owned ≡ is_some mutex.owner → asks ≡ has_asked parking mutex.rank → barred ≡ is_barred core side thread parking.mutex parking.rank → (owned || asks && barred) ≡ is_kept core side thread parking
kept-some core side mutexes thread number parking mutex same numbered at owned asks barred o a b =
    ap (λ (x : Bool). x || asks && barred) o
    ∙ ap (λ (x : Bool). is_some mutex.owner || x && barred) a
    ∙ ap (λ (x : Bool). is_some mutex.owner || has_asked parking mutex.rank && x) b
    ∙ sym (ap (λ (p : Option Mutex). option_map_or (λ mutex. is_some mutex.owner || has_asked parking mutex.rank && is_barred core side thread parking.mutex parking.rank) p false)
    (ap (λ (ms : List Mutex). mutex_in ms parking.mutex) same ∙ at_its_number mutexes parking.mutex number mutex numbered at))

-- it asked for the next rank
pub asks-next : (core : Core) (mutexes : List Mutex) (number : ℕ) (parking : Parking) (mutex : Mutex) → HasMutexes core mutexes → number_of mutexes parking.mutex ≡ Some number → slice_get mutexes number ≡ Some mutex → true ≡ has_asked parking mutex.rank → HasRank core number parking.mutex parking.rank
asks-next core mutexes number parking mutex had numbered at asks = record {
  mutexes = mutexes;
  had = had;
  numbered = numbered;
  ranked = ap (λ (o : Option Mutex). option_map_or (λ m. m.rank) o 0) (at_its_number mutexes parking.mutex number mutex numbered at) ∙ eqb-true mutex.rank parking.rank (and_parts parking.asked (mutex.rank == parking.rank) (sym asks)).1;
}
