-- The seats of peers, against the replicas and what these have beside.
use Rattle.std.specs.Prelude.{◌≡◌, ℕ, ◌+◌, ◌-◌, ◌^◌, ◌<◌, ◌≤◌, min, Bool, false, not, nat_lt, if◌then◌else◌, List, [], ◌∷◌, ◌++◌, length, map, replicate, Option, Some, None, is_some, slice_get, slice_index_or, vec_len, vec_capacity}
use Rattle.std.specs.Option.{option_map_or}
use Rattle.ro_event.specs.Effects.{Effect}
use Rattle.ro_kernel.specs.Kernel.{Kernel}
use Rattle.ro_replica.specs.Replica.{Replica, stop_of}
use Rattle.ro_replica.specs.Seen.{replica_of, CanApply}
use Rattle.ro_replica.specs.Views.{is_unstopped}
use Rattle.ro_peer.specs.declared.mutexes.Mutex.{Mutex}
use Rattle.ro_peer.specs.Seen.{peer_of, number_of}
use Rattle.ro_peer.specs.Gets.{voted}
use Rattle.ro_takers.specs.Recalls.{Recalls}
use Rattle.ro_thread.specs.declared.Thread.{Thread}
use Rattle.ro_legal.specs.Sides.{Side, peer_with, threads_of, rank_in, is_ahead}
use Rattle.ro_legal.specs.Core.{Job, Core, is_home, waits_beside, first_given_up}
use Rattle.ro_legal.specs.Cooperative.{done_in}
use Rattle.ro_legal.specs.Lent.{IsOfJob}
use Rattle.ro_coop_core.specs.declared.seats.Partner.{Partner}
use Rattle.ro_coop_core.specs.declared.seats.Seat.{Seat}
use Rattle.ro_coop_core.specs.declared.seats.Entering.{Entering}

-- who got each of a side's mutexes, in order
abbrev pub takers_of : Side → List (List ℕ)
takers_of side = map (λ mutex. threads_of mutex.address side.gets) side.mutexes

-- where each thread of a peer came back, where it last came back at a lock
abbrev pub KnowsParked : Seat → Side → Type 0
KnowsParked seat side = (thread : ℕ) → slice_index_or seat.parked thread None ≡ side.parked thread

-- what a seat knows of its peer, also while that is lent
pub record Knows (seat : Seat) (replica : Replica) (side : Side) : Type 0 where
  pub parked_count : length seat.parked ≡ 16
  pub parked : KnowsParked seat side
  pub done_count : length seat.done ≡ 16
  pub done : (thread : ℕ) → slice_index_or seat.done thread 0 ≡ done_in replica thread
  pub takers : Recalls (takers_of side) seat.takers

-- this partner is the replica with what it has beside, while the kernel is this one
pub record IsPartner (job : Job) (kernel : Kernel) (replica : Replica) (side : Side) (partner : Partner) : Type 0 where
  pub of_job : IsOfJob job kernel partner.peer.replica
  pub peer_is : peer_of partner.peer ≡ peer_with replica side
  pub ceilings : length partner.ceilings.items ≡ length side.mutexes

-- the seat of a replica: its partner is at home there, or lent
abbrev pub Homed : Job → Core → (number : ℕ) → Replica → Side → Option Partner → Type 0
Homed job core number replica side None = is_home core number ≡ false
Homed job core number replica side (Some partner) = IsPartner job core.kernel replica side partner

pub record IsSeated (job : Job) (core : Core) (number : ℕ) (seat : Seat) : Type 0 where
  pub replica : Replica
  pub side : Side
  pub replica_there : slice_get core.replicas number ≡ Some replica
  pub side_there : slice_get core.sides number ≡ Some side
  pub knows : Knows seat replica side
  pub homed : Homed job core number replica side seat.home

-- each replica is in its seat or lent; one that is at home is in its seat
pub record AreSeated (job : Job) (core : Core) (seats : List Seat) : Type 0 where
  pub count : length seats ≡ length core.replicas
  pub each : (number : ℕ) (seat : Seat) → slice_get seats number ≡ Some seat → IsSeated job core number seat
  pub at_home : (number : ℕ) (seat : Seat) → slice_get seats number ≡ Some seat → is_some seat.home ≡ is_home core number

-- a partner is in the seat
abbrev pub IsThere : List Seat → (place : ℕ) → Type 0
IsThere seats place = (seat : Seat) × (partner : Partner) × (slice_get seats place ≡ Some seat) × (seat.home ≡ Some partner)

-- of a seat: whether its peer is there and the thread can be lent, or stands still
abbrev pub seat_unstopped : (thread : ℕ) → Seat → Bool
seat_unstopped thread seat = option_map_or (λ partner. is_unstopped thread (replica_of partner.peer.replica)) seat.home false

abbrev pub seat_stopped : (thread : ℕ) → Seat → Bool
seat_stopped thread seat = option_map_or (λ partner. is_some (stop_of (replica_of partner.peer.replica) thread)) seat.home false

abbrev pub seat_answered : (thread : ℕ) → Seat → Bool
seat_answered thread seat = option_map_or (λ partner. slice_index_or partner.peer.answered thread false) seat.home false

-- no thread has retired an instruction
abbrev pub HasDoneNothing : Replica → Type 0
HasDoneNothing replica = (thread : ℕ) → done_in replica thread ≡ 0

-- the replica with what it has beside is in its seat, while the kernel is this one
pub record IsHomeSeat (job : Job) (kernel : Kernel) (replica : Replica) (side : Side) (seat : Seat) : Type 0 where
  pub knows : Knows seat replica side
  pub partner : Partner
  pub home : seat.home ≡ Some partner
  pub is : IsPartner job kernel replica side partner

-- and so is every one
abbrev pub AreHome : Job → Kernel → List Replica → List Side → List Seat → Type 0
AreHome job kernel [] [] [] = Unit {0}
AreHome job kernel (replica ∷ replicas) (side ∷ sides) (seat ∷ seats) = IsHomeSeat job kernel replica side seat × AreHome job kernel replicas sides seats
AreHome job kernel _ _ _ = ⊥

-- the mutex that becomes cooperative, if one does
abbrev pub entered_of : Option Entering → List Mutex
entered_of None = []
entered_of (Some entering) = record { address = entering.address; owner = entering.owner; rank = 0 } ∷ []

-- no thread stands at a call that the peer answers itself
abbrev pub HasNoOwnStops : Partner → Type 0
HasNoOwnStops partner = (place : ℕ) (x : Thread) → slice_get partner.peer.replica.threads place ≡ Some x → voted partner.peer.mutexes x.stop ≡ x.stop

-- the partner can be given the effect of an event of the thread, and the mutex that becomes cooperative, with no more memory
pub record CanTake (effect : Effect) (thread : ℕ) (entering : Option Entering) (partner : Partner) : Type 0 where
  pub applies : CanApply effect partner.peer.replica
  pub thread_made : thread < 16
  pub clean : HasNoOwnStops partner
  pub few : (entered : Entering) → entering ≡ Some entered → length partner.peer.mutexes < 256
  pub new : (entered : Entering) → entering ≡ Some entered → number_of partner.peer.mutexes entered.address ≡ None
  pub room : (entered : Entering) → entering ≡ Some entered → vec_len partner.ceilings < vec_capacity partner.ceilings

-- so can each, and there is room for who gets the mutex
abbrev pub AllCanTake : Effect → (thread : ℕ) → Option Entering → List Seat → Type 0
AllCanTake effect thread entering [] = Unit {0}
AllCanTake effect thread entering (seat ∷ seats) = ((partner : Partner) → seat.home ≡ Some partner → CanTake effect thread entering partner) × (0 < seat.takers.room) × AllCanTake effect thread entering seats

-- the partner can be given an event that makes a mutex cooperative with no more memory
pub record IsSpared (seat : Seat) : Type 0 where
  pub pages : (partner : Partner) → seat.home ≡ Some partner → 3 ≤ partner.peer.replica.held.spare
  pub ceilings : (partner : Partner) → seat.home ≡ Some partner → vec_len partner.ceilings < vec_capacity partner.ceilings
  pub takers : 0 < seat.takers.room

abbrev pub AreSpared : List Seat → Type 0
AreSpared [] = Unit {0}
AreSpared (seat ∷ seats) = IsSpared seat × AreSpared seats

-- ---- who got the mutexes

-- each mutex was got as often as it counts
abbrev pub IsRanked : Side → Type 0
IsRanked side = (address : ℕ) → length (threads_of address side.gets) ≡ rank_in side.mutexes address

abbrev pub AreRanked : List Side → Type 0
AreRanked sides = (number : ℕ) (side : Side) → slice_get sides number ≡ Some side → IsRanked side

-- the thread got each mutex up to its rank
abbrev pub noted : (thread : ℕ) → List Mutex → List (List ℕ) → List (List ℕ)
noted thread (mutex ∷ mutexes) (list ∷ lists) = (list ++ replicate (mutex.rank - length list) thread) ∷ noted thread mutexes lists
noted thread mutexes lists = lists

-- the seat knows a mutex by its number
abbrev pub KnowMutex : (number : ℕ) → List Seat → Type 0
KnowMutex number seats = (place : ℕ) (seat : Seat) → slice_get seats place ≡ Some seat → number < length seat.takers.ranks

-- the seat knows by this number who got the mutex at this address in its replica
pub record IsNumbered (number address : ℕ) (side : Side) (seat : Seat) : Type 0 where
  pub recalls : Recalls (takers_of side) seat.takers
  pub numbered : slice_get (takers_of side) number ≡ Some (threads_of address side.gets)
  pub ranked : length (threads_of address side.gets) ≡ rank_in side.mutexes address

abbrev pub AreNumbered : (number address : ℕ) → List Side → List Seat → Type 0
AreNumbered number address [] [] = Unit {0}
AreNumbered number address (side ∷ sides) (seat ∷ seats) = IsNumbered number address side seat × AreNumbered number address sides seats
AreNumbered number address _ _ = ⊥

-- in no replica was the mutex got so often that the rank is forgotten
abbrev pub AreNear : (address rank : ℕ) → List Side → Type 0
AreNear address rank sides = (number : ℕ) (side : Side) → slice_get sides number ≡ Some side → rank_in side.mutexes address ≤ rank + 1024

-- below the ceiling are just the ranks that are not too far ahead
abbrev pub IsCeiling : List Side → (address ceiling : ℕ) → Type 0
IsCeiling sides address ceiling = (rank : ℕ) → rank < 2 ^ 32 → nat_lt rank ceiling ≡ not (is_ahead sides address rank)

-- the seats know by its number who got each of these mutexes in each replica, in none of which it was got so often that its rank is forgotten
pub record KnowEach (sides : List Side) (seats : List Seat) (mutexes : List Mutex) : Type 0 where
  pub numbered : (number : ℕ) (mutex : Mutex) → slice_get mutexes number ≡ Some mutex → number_of mutexes mutex.address ≡ Some number
  pub known : (number : ℕ) (mutex : Mutex) → slice_get mutexes number ≡ Some mutex → AreNumbered number mutex.address sides seats
  pub near : (number : ℕ) (mutex : Mutex) → slice_get mutexes number ≡ Some mutex → AreNear mutex.address mutex.rank sides

-- the ceiling of each of these mutexes, by their numbers, is such a one
abbrev pub EachIsCeiling : List Side → List Mutex → List ℕ → Type 0
EachIsCeiling sides mutexes ceilings =
    (number : ℕ) (mutex : Mutex) → slice_get mutexes number ≡ Some mutex → IsCeiling sides mutex.address (slice_index_or ceilings number 0)

-- each ceiling is lowered to the first rank that the thread gives up, where the other one waits for the mutex
abbrev pub AreLowered : Core → Side → (thread other : ℕ) → (old new : List ℕ) → Type 0
AreLowered core side thread other old new =
    (number : ℕ) (mutex : Mutex) → slice_get side.mutexes number ≡ Some mutex
    → slice_index_or new number 0 ≡ (if waits_beside side thread mutex.address mutex.rank other then min (slice_index_or old number 0) (first_given_up core thread mutex) else slice_index_or old number 0)
