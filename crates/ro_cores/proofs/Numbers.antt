-- Along a cooperative journal the mutexes for which replicas answer keep their numbers, which are the same in each replica.
use Rattle.std.specs.Prelude.{◌≡◌, ℕ, zero, suc, ◌==◌, ◌&&◌, Bool, true, false, not, if◌then◌else◌, List, [], ◌∷◌, ◌++◌, map, Option, Some, None, slice_get}
use Rattle.std.specs.Option.{option_map, option_map_or}
use Rattle.std.proofs.Common.{refl, sym, ap, ◌∙◌, subst, append-nil}
use Rattle.std.proofs.lemmas.Option.{option_and_then_some}
use Rattle.ro_event.specs.declared.stops.Stop.{Stop}
use Rattle.ro_event.specs.declared.stops.Stop.TheVariants.{Calls}
use Rattle.ro_journal.specs.declared.Entry.{Entry}
use Rattle.ro_journal.specs.declared.Entry.TheVariants.{Take, Put, Part, Vote, Free, Scrub, End}
use Rattle.ro_journal.specs.declared.Lease.{Lease}
use Rattle.ro_kernel.specs.Kernel.{Kernel}
use Rattle.ro_replica.specs.Replica.{Replica, changed_at}
use Rattle.ro_plain.proofs.Calls.{some-injective}
use Rattle.ro_orders.specs.Turns.{Chosen, is_cooperative}
use Rattle.ro_orders.specs.Choices.{chosen_of}
use Rattle.ro_peer.specs.declared.mutexes.Mutex.{Mutex}
use Rattle.ro_peer.specs.Peers.{Peer}
use Rattle.ro_peer.specs.Seen.{number_of}
use Rattle.ro_locking.specs.Got.{KeepsNumbers}
use Rattle.ro_locking.proofs.Adding.{numbers_same, numbers_entered}
use Rattle.ro_legal.specs.declared.parkings.Parking.{Parking}
use Rattle.ro_legal.specs.Sides.{Side, peer_with}
use Rattle.ro_legal.specs.Core.{Job, Core}
use Rattle.ro_legal.specs.Event.{Event}
use Rattle.ro_legal.specs.Cooperative.{peer_in, lease_run, lease_gets, arrival, parking_of, side_after, core_after_lease, core_after_put, core_after_part, kernel_for, entered_by, side_served, voted_stop, voted_event, freed_event, core_after_event, after, replay_from}
use Rattle.ro_legal.specs.Kept.{addresses_of, KeepsMutexes}
use Rattle.ro_legal.proofs.MutexRuns.{LeaseParts, lease-parts}

-- ---- numbers hang on the addresses alone

abbrev place_in : List ℕ → (address : ℕ) → Option ℕ
place_in [] address = None
place_in (a ∷ addresses) address = if a == address then Some 0 else option_map suc (place_in addresses address)

number-is : (mutexes : List Mutex) (address : ℕ) → number_of mutexes address ≡ place_in (addresses_of mutexes) address
number-is [] address = refl
number-is (m ∷ mutexes) address = ap (λ (o : Option ℕ). if m.address == address then Some 0 else option_map suc o) (number-is mutexes address)

pub same-numbers : (old new : List Mutex) → addresses_of old ≡ addresses_of new → KeepsNumbers old new
same-numbers old new same address number is =
    number-is new address ∙ (ap (λ (addresses : List ℕ). place_in addresses address) (sym same) ∙ (sym (number-is old address) ∙ is))

pub numbers-both : (one two three : List Mutex) → KeepsNumbers one two → KeepsNumbers two three → KeepsNumbers one three
numbers-both one two three first rest address number is = rest address number (first address number is)

-- ---- the mutexes of the first replica, behind each entry

abbrev pub first_of : List Side → List Mutex
first_of sides = option_map_or (λ side. side.mutexes) (slice_get sides 0) []

-- a lease leaves their addresses
numbers-changed : (change : Side → Side) (sides : List Side) (number : ℕ) (side : Side) → slice_get sides number ≡ Some side → addresses_of (change side).mutexes ≡ addresses_of side.mutexes → KeepsNumbers (first_of sides) (first_of (changed_at change sides number))
numbers-changed change [] number side there same = numbers_same []
numbers-changed change (s ∷ sides) zero side there same =
    let is : side ≡ s = sym (some-injective there) in
    same-numbers s.mutexes (change s).mutexes (sym (subst (λ (x : Side). addresses_of (change x).mutexes ≡ addresses_of x.mutexes) is same))
numbers-changed change (s ∷ sides) (suc number) side there same = numbers_same s.mutexes

module _ (job : Job) (core : Core) where
  numbers-leased : (lease : Lease) (count : ℕ) (peer : Peer) (stop : Option Stop) (parking : Option Parking) → lease_run job core lease count ≡ Some peer
      → KeepsNumbers (first_of core.sides) (first_of (core_after_lease core lease peer (lease_gets job core lease count) stop parking).sides)
  numbers-leased lease count peer stop parking runs =
      let parts : LeaseParts job core lease count peer = lease-parts job core lease count peer runs in
      numbers-changed (side_after lease.thread peer (lease_gets job core lease count) parking) core.sides lease.replica parts.side parts.beside parts.keeps.addresses_are

  numbers-put : (lease : Lease) (count : ℕ) (o : Option Peer) → lease_run job core lease count ≡ o → KeepsNumbers (first_of core.sides) (first_of (core_after_put job core lease count o).sides)
  numbers-put lease count None runs = numbers_same (first_of core.sides)
  numbers-put lease count (Some peer) runs = numbers-leased lease count peer (arrival job core.kernel lease.thread count peer) None runs

  numbers-part : (lease : Lease) (count : ℕ) (o : Option Peer) → lease_run job core lease count ≡ o → KeepsNumbers (first_of core.sides) (first_of (core_after_part job core lease count o).sides)
  numbers-part lease count None runs = numbers_same (first_of core.sides)
  numbers-part lease count (Some peer) runs = numbers-leased lease count peer None (parking_of job core.kernel lease.thread peer) runs

  -- those that an event enters come behind
  numbers-before : (chosen : Chosen) (before behind : Kernel) (stop : Option Stop) (mutexes : List Mutex) → KeepsNumbers mutexes (mutexes ++ entered_by chosen before behind stop)
  numbers-before chosen before behind stop mutexes = by stop
    where
      none : KeepsNumbers mutexes (mutexes ++ [])
      none = subst (KeepsNumbers mutexes) (sym (append-nil mutexes)) (numbers_same mutexes)

      bit : (address : ℕ) (owner : Option ℕ) (b : Bool) → KeepsNumbers mutexes (mutexes ++ (if b then record { address = address; owner = owner; rank = 0 } ∷ [] else []))
      bit address owner true = numbers_entered mutexes address owner
      bit address owner false = none

      by : (s : Option Stop) → KeepsNumbers mutexes (mutexes ++ entered_by chosen before behind s)
      by (Some (Calls call)) = bit call.a0 _ (is_cooperative chosen behind call.a0 && not (is_cooperative chosen before call.a0))
      by s = none

  numbers-served : (thread : ℕ) (chosen : Chosen) (before behind : Kernel) (stop : Option Stop) (sides : List Side) → KeepsNumbers (first_of sides) (first_of (map (side_served thread (entered_by chosen before behind stop)) sides))
  numbers-served thread chosen before behind stop [] = numbers_same []
  numbers-served thread chosen before behind stop (s ∷ sides) = numbers-before chosen before behind stop s.mutexes

  numbers-event : (thread : ℕ) (stop : Option Stop) (event : Option Event) → KeepsNumbers (first_of core.sides) (first_of (core_after_event job core thread stop event).sides)
  numbers-event thread stop None = numbers_same (first_of core.sides)
  numbers-event thread stop (Some event) = numbers-served thread (chosen_of job.program) (kernel_for core thread) event.kernel stop core.sides

  numbers-after : (entry : Entry) → KeepsNumbers (first_of core.sides) (first_of (after job core entry).sides)
  unfolding after
  numbers-after (Take lease) = numbers_same (first_of core.sides)
  numbers-after (Put lease count hit) = numbers-put lease count (lease_run job core lease count) refl
  numbers-after (Part lease count hit) = numbers-part lease count (lease_run job core lease count) refl
  numbers-after (Vote thread count won lost did) = numbers-event thread (voted_stop core thread) (voted_event job core thread)
  numbers-after (Free thread) = numbers-event thread (option_map Calls (core.blocked thread)) (freed_event job core thread)
  numbers-after (Scrub won lost) = numbers_same (first_of core.sides)
  numbers-after (End how) = numbers_same (first_of core.sides)

-- so along any journal
pub numbers-along : (job : Job) (core : Core) (journal : List Entry) → KeepsNumbers (first_of core.sides) (first_of (replay_from job core journal).sides)
numbers-along job core [] = numbers_same (first_of core.sides)
numbers-along job core (entry ∷ journal) =
    numbers-both (first_of core.sides) (first_of (after job core entry).sides) (first_of (replay_from job (after job core entry) journal).sides) (numbers-after job core entry) (numbers-along job (after job core entry) journal)

-- ---- each replica has the same

-- a peer by its replica and what that has beside
record PeerParts (core : Core) (number : ℕ) (peer : Peer) : Type 0 where
  replica : Replica
  side : Side
  here : slice_get core.replicas number ≡ Some replica
  beside : slice_get core.sides number ≡ Some side
  is : peer_with replica side ≡ peer

peer-parts : (core : Core) (number : ℕ) (peer : Peer) → peer_in core number ≡ Some peer → PeerParts core number peer
peer-parts core number peer there =
    option_and_then_some (λ replica. option_map (peer_with replica) (slice_get core.sides number)) (slice_get core.replicas number) peer there (λ replica here e. by replica here (slice_get core.sides number) refl e)
  where
    by : (replica : Replica) → slice_get core.replicas number ≡ Some replica → (o : Option Side) → slice_get core.sides number ≡ o → option_map (peer_with replica) o ≡ Some peer → PeerParts core number peer
    by replica here None beside e = absurd (let f : None ≡ Some peer = e in cc)
    by replica here (Some side) beside e = record { replica = replica; side = side; here = here; beside = beside; is = some-injective e }

first-there : {X : Type 0} (xs : List X) (number : ℕ) (x : X) → slice_get xs number ≡ Some x → (y : X) × (slice_get xs 0 ≡ Some y)
first-there [] number x there = absurd (let f : None ≡ Some x = there in cc)
first-there (y ∷ xs) number x there = (y, refl)

-- a replica's mutexes have the addresses that those of the first have
pub same-as-first : (job : Job) (core : Core) → KeepsMutexes job core → (number : ℕ) (peer : Peer) → peer_in core number ≡ Some peer → addresses_of peer.mutexes ≡ addresses_of (first_of core.sides)
same-as-first job core keeps number peer there =
    let parts = peer-parts core number peer there in
    let replica = first-there core.replicas number parts.replica parts.here in
    let side = first-there core.sides number parts.side parts.beside in
    ap (λ (p : Peer). addresses_of p.mutexes) (sym parts.is)
    ∙ ((keeps.counted number parts.replica parts.side parts.here parts.beside).answers_for
    ∙ (sym (keeps.counted 0 replica.0 side.0 replica.1 side.1).answers_for
    ∙ ap (λ (o : Option Side). addresses_of (option_map_or (λ s. s.mutexes) o [])) (sym side.1)))
