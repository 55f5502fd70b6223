-- What a replica has beside in a cooperative run, where it answers the calls on some mutexes by itself.
pub use Rattle.ro_legal.specs.declared.parkings.Parking.{Parking}
use Rattle.std.specs.Prelude.{ℕ, ◌+◌, Bool, false, ◌&&◌, ◌==◌, nat_le, if◌then◌else◌, List, [], ◌∷◌, Option, None, slice_get}
use Rattle.std.specs.List.{list_any}
use Rattle.std.specs.Option.{option_map_or}
use Rattle.ro_replica.specs.Replica.{Replica}
use Rattle.ro_peer.specs.declared.mutexes.Mutex.{Mutex}
use Rattle.ro_peer.specs.Peers.{Peer, mutex_in}
use Rattle.ro_peer.specs.Gets.{Get}

pub record Side : Type 0 where
  pub mutexes : List Mutex  -- those whose calls it answers, in the order in which they became cooperative
  pub answered : (thread : ℕ) → Bool  -- it answered a call of the thread since the kernel last served one of it
  pub gets : List Get  -- who got which of them in it, in order
  pub parked : (thread : ℕ) → Option Parking  -- where the thread came back, where it last came back at a lock

abbrev pub opening_side : Side
opening_side = record { mutexes = []; answered = λ thread. false; gets = []; parked = λ thread. None }

-- a replica and what it has beside, as one that answers
abbrev pub peer_with : Replica → Side → Peer
peer_with replica side = record { replica = replica; mutexes = side.mutexes; answered = side.answered }

abbrev pub peers_of : List Replica → List Side → List Peer
peers_of (replica ∷ replicas) (side ∷ sides) = peer_with replica side ∷ peers_of replicas sides
peers_of _ _ = []

-- who got a mutex, in order
abbrev pub threads_of : (mutex : ℕ) → List Get → List ℕ
threads_of mutex [] = []
threads_of mutex (get ∷ gets) = if get.mutex == mutex then get.thread ∷ threads_of mutex gets else threads_of mutex gets

-- who got a mutex at a rank, by the first replica in which it was got so often
abbrev pub taker_of : List Side → (mutex rank : ℕ) → Option ℕ
taker_of [] mutex rank = None
taker_of (side ∷ sides) mutex rank = taker_by (slice_get (threads_of mutex side.gets) rank) (taker_of sides mutex rank)
  where
    taker_by : Option ℕ → Option ℕ → Option ℕ
    taker_by None others = others
    taker_by here others = here

-- how often a mutex was got
abbrev pub rank_in : List Mutex → (address : ℕ) → ℕ
rank_in mutexes address = option_map_or (λ mutex. mutex.rank) (mutex_in mutexes address) 0

-- how many ranks of a mutex the replicas may be apart
abbrev pub most_apart : ℕ
most_apart = 1024

-- some replica is so far behind that a rank of the mutex is not to be got yet
abbrev pub is_ahead : List Side → (mutex rank : ℕ) → Bool
is_ahead sides mutex rank = list_any (λ side. nat_le (rank_in side.mutexes mutex + most_apart) rank) sides

-- a thread that came back at a lock found the mutex free there, at this rank
abbrev pub has_asked : Parking → (rank : ℕ) → Bool
has_asked parking rank = parking.asked && (rank == parking.rank)
