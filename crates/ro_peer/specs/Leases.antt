-- How a run of a peer's thread comes back.
use Rattle.std.specs.Prelude.{◌≡◌, ◌≢◌, ◌⊎◌, ℕ, List, [], ◌∷◌, ◌+◌, ◌<◌, ◌≤◌, ◌^◌, true, false, IsTrue, Option, Some, None, slice_get}
use Rattle.ro_event.specs.declared.calls.Call.{Call}
use Rattle.ro_event.specs.declared.calls.Which.TheVariants.{Function}
use Rattle.ro_event.specs.declared.functions.Function.TheVariants.{Lock}
use Rattle.ro_event.specs.declared.stops.Stop.TheVariants.{Calls}
use Rattle.ro_exec.specs.Next.{Layout}
use Rattle.ro_replica.specs.Replica.{changed_at}
use Rattle.ro_replica.specs.Runs.{standing_at, with_stop}
use Rattle.ro_replica.specs.Views.{is_unstopped}
use Rattle.ro_orders.specs.Copies.{Rows}
use Rattle.ro_peer.specs.declared.mutexes.Mutex.{Mutex}
use Rattle.ro_peer.specs.declared.running.Came.{Came}
use Rattle.ro_peer.specs.declared.running.Came.TheVariants.{Quantum, Stopped, Owned, Row, Full}
use Rattle.ro_peer.specs.Peers.{Peer, mutex_in, is_got, leased, leased_run}
use Rattle.ro_peer.specs.Gets.{Get, InRows, asker, get_of, got_in, is_own_call}
use Rattle.ro_peer.specs.Seen.{number_of, by_address}

-- a thread stands at a lock of a mutex that the peer answers for, by its number
pub record IsAtLock (layout : Layout) (watchdog thread : ℕ) (peer : Peer) (number : ℕ) (mutex : Mutex) : Type 0 where
  pub call : Call
  pub standing : standing_at layout watchdog peer.replica thread ≡ Some (Calls call)
  pub locks : call.which ≡ Function Lock
  pub own : mutex_in peer.mutexes call.a0 ≡ Some mutex
  pub numbered : number_of peer.mutexes call.a0 ≡ Some number

-- why a lock was not answered: another thread owns the mutex; it is free, and can be got once more; it is free, and was got as often as is counted
abbrev pub LockWaits : Layout → (watchdog thread : ℕ) → Peer → Came → Type 0
LockWaits layout watchdog thread peer (Owned number) =
    (mutex : Mutex) × IsAtLock layout watchdog thread peer number mutex × (owner : ℕ) × (mutex.owner ≡ Some owner) × (owner ≢ thread)
LockWaits layout watchdog thread peer (Row number) =
    (mutex : Mutex) × IsAtLock layout watchdog thread peer number mutex × (mutex.owner ≡ None) × (mutex.rank + 1 < 2 ^ 32)
LockWaits layout watchdog thread peer (Full number) =
    (mutex : Mutex) × IsAtLock layout watchdog thread peer number mutex × (mutex.owner ≡ None) × (mutex.rank + 1 ≡ 2 ^ 32)
LockWaits layout watchdog thread peer came = ⊥

-- a thread that waits at a free mutex was refused the rank that the mutex has next
abbrev pub IsRefused : (refused : ℕ → ℕ → ℕ → Type 0) → (thread : ℕ) → List Mutex → Came → Type 0
IsRefused refused thread mutexes (Row number) = (mutex : Mutex) × (slice_get mutexes number ≡ Some mutex) × refused number mutex.rank thread
IsRefused refused thread mutexes came = Unit {0}

-- the number of the mutex at whose lock a thread waits that came back so
abbrev pub waiting_at : Came → Option ℕ
waiting_at (Owned number) = Some number
waiting_at (Row number) = Some number
waiting_at (Full number) = Some number
waiting_at came = None

-- why a run of so many instructions came back
abbrev pub CameBy : Layout → (watchdog quantum thread count : ℕ) → Peer → Came → Type 0
CameBy layout watchdog quantum thread count peer Quantum = count ≡ quantum
CameBy layout watchdog quantum thread count peer (Stopped stop) =
    (count < quantum) × (standing_at layout watchdog peer.replica thread ≡ Some stop) × (is_own_call peer.mutexes stop ≡ false)
CameBy layout watchdog quantum thread count peer came = (count < quantum) × LockWaits layout watchdog thread peer came

-- the thread's stop, where a vote is to be held on it
abbrev pub stopped : (thread : ℕ) → Came → Peer → Peer
stopped thread (Stopped stop) peer =
    record peer { replica = record peer.replica { threads = changed_at (with_stop (Some stop)) peer.replica.threads thread } }
stopped thread came peer = peer

-- A run of so many steps of a peer's thread, from one peer to another. What it got are rows that are known to be its thread's.
pub record PeerRuns (layout : Layout) (watchdog quantum thread : ℕ) (rows : Rows) (old new : Peer) (count : ℕ) (came : Came) : Type 0 where
  pub end : Peer
  pub runs : leased_run layout (asker thread) watchdog count old thread ≡ Some end
  pub new_is : new ≡ stopped thread came end
  pub gets : InRows (by_address old.mutexes rows) (got_in layout watchdog count old thread)
  pub came_by : CameBy layout watchdog quantum thread count end came

-- what is known stays known
abbrev pub KeepsRows : (old new : Rows) → Type 0
KeepsRows old new = (number rank thread : ℕ) → old number rank ≡ Some thread → new number rank ≡ Some thread

-- one of what was got is of this mutex, by its number, at this rank and by this thread
abbrev pub IsAmong : List Mutex → List Get → (number rank thread : ℕ) → Type 0
IsAmong mutexes [] number rank thread = ⊥
IsAmong mutexes (get ∷ gets) number rank thread =
    ((number_of mutexes get.mutex ≡ Some number) × (get.rank ≡ rank) × (get.thread ≡ thread)) ⊎ IsAmong mutexes gets number rank thread

-- what was won is among what was got
abbrev pub Wins : (old new : ℕ → ℕ → ℕ → Type 0) → List Mutex → List Get → Type 0
Wins old new mutexes gets = (number rank thread : ℕ) → new number rank thread → old number rank thread ⊎ IsAmong mutexes gets number rank thread

-- ---- parts of a run

-- So many steps of a thread that is not stopped, and it is not stopped behind them.
pub record IsUnderWay (layout : Layout) (watchdog thread : ℕ) (rows : Rows) (old new : Peer) (count : ℕ) : Type 0 where
  pub runs : leased_run layout (asker thread) watchdog count old thread ≡ Some new
  pub gets : InRows (by_address old.mutexes rows) (got_in layout watchdog count old thread)
  pub going : IsTrue (is_unstopped thread new.replica)

-- a part of a run came back, or it goes on
abbrev pub GoesOn : Layout → (watchdog most thread : ℕ) → Rows → (old new : Peer) → (count : ℕ) → Option Came → Type 0
GoesOn layout watchdog most thread rows old new count None = IsUnderWay layout watchdog thread rows old new count × (0 < count) × (count ≤ most)
GoesOn layout watchdog most thread rows old new count (Some came) = PeerRuns layout watchdog most thread rows old new count came × (count ≤ most)

-- a call on a mutex that the peer answers for was answered, or it waits
abbrev pub Meets : Layout → (watchdog thread : ℕ) → Rows → (old new : Peer) → Option Came → Type 0
Meets layout watchdog thread rows old new None =
    (leased layout (asker thread) watchdog old thread ≡ Some new) × InRows (by_address old.mutexes rows) (get_of layout old thread)
Meets layout watchdog thread rows old new (Some came) = (new ≡ old) × LockWaits layout watchdog thread old came

-- Whether a change may be made: where a thread gets the mutex by it, the row is known to be its own, and its rank is counted.
abbrev pub Permits : Rows → Option (Option ℕ) → (number rank thread : ℕ) → Option Came → Type 0
Permits rows change number rank thread None = is_got change ≡ true → (rank + 1 < 2 ^ 32) × (rows number rank ≡ Some thread)
Permits rows change number rank thread (Some (Row at)) = (at ≡ number) × (is_got change ≡ true) × (rank + 1 < 2 ^ 32)
Permits rows change number rank thread (Some (Full at)) = (at ≡ number) × (is_got change ≡ true) × (rank + 1 ≡ 2 ^ 32)
Permits rows change number rank thread (Some came) = ⊥

-- what a call got that was answered, or waits
abbrev pub met_gets : Option Came → List Get → List Get
met_gets None gets = gets
met_gets (Some came) gets = []
