-- A core in which nothing can be done any more.
use Rattle.std.specs.Prelude.{◌≡◌, ◌⊎◌, ℕ, ◌<◌, true, false, List, [], Some, None, slice_get}
use Rattle.ro_event.specs.declared.calls.Call.{Call}
use Rattle.ro_event.specs.declared.stops.Stop.{Stop}
use Rattle.ro_event.specs.declared.stops.Stop.TheVariants.{Calls}
use Rattle.ro_exec.specs.Next.{Layout, Stands, next}
use Rattle.ro_kernel.specs.Kernel.{lives_on}
use Rattle.ro_kernel.specs.Serve.{blocks}
use Rattle.ro_thread.specs.declared.Thread.{Thread}
use Rattle.ro_plain.specs.Machine.{setup_of}
use Rattle.ro_orders.specs.Turns.{is_lock_or_unlock}
use Rattle.ro_orders.specs.Answers.{Answers, Waits, answer_by}
use Rattle.ro_orders.specs.Copies.{Rows}
use Rattle.ro_peer.specs.declared.mutexes.Mutex.{Mutex}
use Rattle.ro_peer.specs.Peers.{Peer, mutex_in, is_row}
use Rattle.ro_legal.specs.Sides.{rank_in}
use Rattle.ro_coop.specs.Core.{Job, Core, layout_here, kernel_for, is_going}

-- a thread that is stopped in a peer
abbrev pub Stopped : Peer → ℕ → Type 0
Stopped peer t = (x : Thread) × (slice_get peer.replica.threads t ≡ Some x) × (stop : Stop) × (x.stop ≡ Some stop)

-- some peer got a mutex less often than this
abbrev pub Lags : List Peer → (address rank : ℕ) → Type 0
Lags peers address rank = (n : ℕ) × (peer : Peer) × (slice_get peers n ≡ Some peer) × (rank_in peer.mutexes address < rank)

-- a row is not the thread's: it is another's, or nobody's, and some peer got the mutex less often
abbrev pub IsNotIts : Rows → List Peer → (address rank t : ℕ) → Type 0
IsNotIts rows peers address rank t = (is_row (rows address rank) t ≡ false) × (((u : ℕ) × (rows address rank ≡ Some u)) ⊎ Lags peers address rank)

-- A thread that waits at a lock in a peer: another owns the mutex there, or the mutex is free there and its next row is not the thread's.
pub record WaitsAtLock (layout : Layout) (rows : Rows) (peers : List Peer) (peer : Peer) (t : ℕ) : Type 0 where
  pub thread : Thread
  pub there : slice_get peer.replica.threads t ≡ Some thread
  pub call : Call
  pub stands : next layout peer.replica.backed peer.replica.memory thread.cpu ≡ Stands (Calls call)
  pub is_mutex : is_lock_or_unlock call.which ≡ true
  pub mutex : Mutex
  pub listed : mutex_in peer.mutexes call.a0 ≡ Some mutex
  pub waits : (answer_by call.which t mutex.owner ≡ Waits)
      ⊎ (IsNotIts rows peers call.a0 mutex.rank t × ((value : ℕ) × (answer_by call.which t mutex.owner ≡ Answers (Some (Some t)) value)))

-- nothing is lent, due or enabled, and no thread can be lent; and each row that is written was taken by some peer
pub record IsStuck (job : Job) (rows : Rows) (core : Core) : Type 0 where
  pub going : is_going core ≡ true
  pub nothing_lent : core.leases ≡ []
  pub none_free : (t : ℕ) (call : Call) → core.blocked t ≡ Some call → blocks (setup_of job.program) (kernel_for core t) t call ≡ true
  pub none_lent : (t : ℕ) → lives_on core.kernel t ≡ true → core.blocked t ≡ None → (n : ℕ) (peer : Peer) → slice_get core.peers n ≡ Some peer → Stopped peer t ⊎ WaitsAtLock (layout_here job core) rows core.peers peer t
  pub none_voted : (t : ℕ) → lives_on core.kernel t ≡ true → core.blocked t ≡ None → (n : ℕ) × (peer : Peer) × (slice_get core.peers n ≡ Some peer) × WaitsAtLock (layout_here job core) rows core.peers peer t
  pub all_taken : (mutex rank u : ℕ) → rows mutex rank ≡ Some u → (n : ℕ) × (peer : Peer) × (slice_get core.peers n ≡ Some peer) × (rank < rank_in peer.mutexes mutex)
