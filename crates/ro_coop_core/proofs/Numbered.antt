-- What seats know of a mutex by its number: who got it in each replica.
use Rattle.std.proofs.Common.{◌≡◌, ℕ, zero, suc, ◌<◌, ◌≤◌, List, [], ◌∷◌, length, Option, Some, None, refl, sym, ap, ◌∙◌, subst, arith}
use Rattle.std.specs.Prelude.{Bool, true, false, if◌then◌else◌, slice_get, slice_set}
use Rattle.ro_event.specs.Functions.{functions}
use Rattle.ro_mutex.specs.Owners.{Owners}
use Rattle.ro_plain.specs.Machine.{Program}
use Rattle.ro_orders.specs.Choices.{has_otherwise}
use Rattle.std.proofs.lemmas.List.{length-map}
use Rattle.std.proofs.lemmas.Option.{slice_get_within, get_or_from_slice_get}
use Rattle.ro_plain.proofs.Calls.{some-injective}
use Rattle.ro_replica.specs.Replica.{Replica}
use Rattle.ro_peer.specs.declared.mutexes.Mutex.{Mutex}
use Rattle.ro_takers.specs.Recalls.{Recalls, list_of}
use Rattle.ro_legal.specs.Sides.{Side, threads_of}
use Rattle.ro_legal.specs.Core.{Job, Core}
use Rattle.ro_legal.specs.Kept.{KeepsReplicas, KeepsMutexes, IsCounted, addresses_of, table_of, cooperative_in}
use Rattle.ro_legal.proofs.Lists.{MappedFrom, get-map, get-map-there, length-mapped}
use Rattle.ro_coop_core.specs.declared.seats.Seat.{Seat}
use Rattle.ro_coop_core.specs.Seats.{AreSeated, IsSeated, IsNumbered, AreNumbered, KnowMutex, takers_of}

-- ---- by the number

pub are-numbered : (number address : ℕ) (sides : List Side) (seats : List Seat) → length seats ≡ length sides → ((place : ℕ) (side : Side) (seat : Seat) → slice_get sides place ≡ Some side → slice_get seats place ≡ Some seat → IsNumbered number address side seat) → AreNumbered number address sides seats
are-numbered number address [] [] count each = tt
are-numbered number address (side ∷ sides) (seat ∷ seats) count each = (each 0 side seat refl refl, are-numbered number address sides seats (omega arith) (λ place other one e f. each (suc place) other one e f))
are-numbered number address [] (seat ∷ seats) count each = absurd (omega arith)
are-numbered number address (side ∷ sides) [] count each = absurd (omega arith)

-- the list of the mutex in a seat
pub its-list : (number address : ℕ) (side : Side) (seat : Seat) → IsNumbered number address side seat → list_of (takers_of side) number ≡ threads_of address side.gets
its-list number address side seat h = get_or_from_slice_get (takers_of side) number (threads_of address side.gets) [] h.numbered

pub is-known : (number address : ℕ) (side : Side) (seat : Seat) → IsNumbered number address side seat → number < length seat.takers.ranks
is-known number address side seat h =
    let many : length seat.takers.ranks ≡ length (takers_of side) = ap length h.recalls.ranks ∙ length-map (takers_of side) length in
    let within = slice_get_within (takers_of side) number (threads_of address side.gets) h.numbered in
    omega arith

pub know-mutex : (number address : ℕ) (sides : List Side) (seats : List Seat) → AreNumbered number address sides seats → KnowMutex number seats
know-mutex number address [] [] h place seat e = absurd (let f : None ≡ Some seat = e in cc)
know-mutex number address (d ∷ sides) (s ∷ seats) h zero seat e = subst (λ (x : Seat). number < length x.takers.ranks) (some-injective e) (is-known number address d s h.0)
know-mutex number address (d ∷ sides) (s ∷ seats) h (suc place) seat e = know-mutex number address sides seats h.1 place seat e
know-mutex number address sides seats h place seat e = absurd h

-- a seat that knows the same takers
pub numbered-set : (number address : ℕ) (sides : List Side) (seats : List Seat) (place : ℕ) (seat seat' : Seat) → slice_get seats place ≡ Some seat → seat'.takers ≡ seat.takers → AreNumbered number address sides seats → AreNumbered number address sides (slice_set seats place seat')
numbered-set number address [] [] place seat seat' e same h = tt
numbered-set number address (d ∷ sides) (s ∷ seats) zero seat seat' e same h =
    let takers : seat'.takers ≡ s.takers = same ∙ ap (λ (x : Seat). x.takers) (sym (some-injective e)) in
    (record { recalls = subst (Recalls (takers_of d)) (sym takers) h.0.recalls; numbered = h.0.numbered; ranked = h.0.ranked }, h.1)
numbered-set number address (d ∷ sides) (s ∷ seats) (suc place) seat seat' e same h = (h.0, numbered-set number address sides seats place seat seat' e same h.1)
numbered-set number address [] (s ∷ seats) place seat seat' e same h = absurd h
numbered-set number address (d ∷ sides) [] place seat seat' e same h = absurd h

-- no more than stand in the table
few-cooperative : (program : Program) (owners : Owners) → length (cooperative_in program owners) ≤ length owners
few-cooperative program owners = by (has_otherwise program.image.calls.addresses functions)
  where
    by : (b : Bool) → length (if b then [] else table_of owners) ≤ length owners
    by true = omega arith
    by false = let same = length-mapped (λ (x : ℕ × Option ℕ). x.0) owners in omega arith

-- ---- in a core

module _ (job : Job) (core : Core) (seats : List Seat) (seated : AreSeated job core seats) (replicas : KeepsReplicas job core) (mutexes : KeepsMutexes job core) where
  seat-numbered : (number address : ℕ) → slice_get (cooperative_in job.program core.kernel.owners) number ≡ Some address → (place : ℕ) (side : Side) (seat : Seat) → slice_get core.sides place ≡ Some side → slice_get seats place ≡ Some seat → IsNumbered number address side seat
  seat-numbered number address listed place side seat there e = record {
    recalls = subst (λ (d : Side). Recalls (takers_of d) seat.takers) same s.knows.takers;
    numbered = get-map-there (λ mutex. threads_of mutex.address side.gets) side.mutexes number its.from its.there ∙ ap (λ (a : ℕ). Some (threads_of a side.gets)) its.gives;
    ranked = counted.ranks_are address;
  }
    where
      s : IsSeated job core place seat
      s = seated.each place seat e

      same : s.side ≡ side
      same = some-injective (sym s.side_there ∙ there)

      counted : IsCounted job core s.replica side
      counted = mutexes.counted place s.replica side s.replica_there there

      its : MappedFrom (λ (mutex : Mutex). mutex.address) side.mutexes number address
      its = get-map (λ mutex. mutex.address) side.mutexes number address (ap (λ (ns : List ℕ). slice_get ns number) counted.answers_for ∙ listed)

  -- each seat knows the mutex that is the so-manieth to be cooperative
  pub all-numbered : (number address : ℕ) → slice_get (cooperative_in job.program core.kernel.owners) number ≡ Some address → AreNumbered number address core.sides seats
  all-numbered number address listed = are-numbered number address core.sides seats (let a = seated.count in let b = replicas.replica_count in let d = replicas.side_count in omega arith) (seat-numbered number address listed)

  -- a mutex of any side is one of these
  its-number : (place : ℕ) (replica : Replica) (side : Side) (number : ℕ) (mutex : Mutex) → slice_get core.replicas place ≡ Some replica → slice_get core.sides place ≡ Some side → slice_get side.mutexes number ≡ Some mutex
      → slice_get (cooperative_in job.program core.kernel.owners) number ≡ Some mutex.address
  its-number place replica side number mutex here beside e =
      let counted : IsCounted job core replica side = mutexes.counted place replica side here beside in
      ap (λ (ns : List ℕ). slice_get ns number) (sym counted.answers_for) ∙ get-map-there (λ m. m.address) side.mutexes number mutex e

  -- so each seat knows it by its number there
  pub side-numbered : (place : ℕ) (replica : Replica) (side : Side) (number : ℕ) (mutex : Mutex) → slice_get core.replicas place ≡ Some replica → slice_get core.sides place ≡ Some side → slice_get side.mutexes number ≡ Some mutex
      → AreNumbered number mutex.address core.sides seats
  side-numbered place replica side number mutex here beside e = all-numbered number mutex.address (its-number place replica side number mutex here beside e)

  -- no side has more than stand in the table
  pub few-mutexes : (place : ℕ) (replica : Replica) (side : Side) → slice_get core.replicas place ≡ Some replica → slice_get core.sides place ≡ Some side → length side.mutexes ≤ 256
  few-mutexes place replica side here beside =
      let counted = mutexes.counted place replica side here beside in
      let few = mutexes.few in
      let same : length (addresses_of side.mutexes) ≡ length (cooperative_in job.program core.kernel.owners) = ap length counted.answers_for in
      let addresses = length-mapped (λ (m : Mutex). m.address) side.mutexes in
      let table = few-cooperative job.program core.kernel.owners in
      omega arith
