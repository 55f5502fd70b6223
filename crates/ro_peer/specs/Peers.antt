-- A peer: a replica that answers the calls on cooperative mutexes by itself, and the unreplicated machine that it is.
use Rattle.std.specs.Prelude.{ℕ, zero, suc, ◌+◌, Bool, true, false, not, ◌&&◌, List, [], ◌∷◌, map, Option, Some, None, ◌==◌, if◌then◌else◌, slice_get, slice_set}
use Rattle.std.specs.Option.{option_and_then}
use Rattle.ro_event.specs.declared.calls.Call.{Call}
use Rattle.ro_event.specs.declared.stops.Stop.TheVariants.{Calls}
use Rattle.ro_mutex.specs.Owners.{with_owner}
use Rattle.ro_exec.specs.declared.Cpu.{Cpu}
use Rattle.ro_exec.specs.Next.{Layout, Next, Stands, Executes, next}
use Rattle.ro_kernel.specs.declared.reservations.Reservation.{Reservation}
use Rattle.ro_kernel.specs.Kernel.{Kernel}
use Rattle.ro_thread.specs.declared.Thread.{Thread}
use Rattle.ro_replica.specs.Replica.{Replica, went_on}
use Rattle.ro_replica.specs.Runs.{executed}
use Rattle.ro_plain.specs.Machine.{Machine}
use Rattle.ro_orders.specs.Turns.{is_lock_or_unlock}
use Rattle.ro_orders.specs.Copies.{Rows}
use Rattle.ro_orders.specs.Answers.{Answer, Answers, Waits, answer_by}
use Rattle.ro_peer.specs.declared.mutexes.Mutex.{Mutex}

pub record Peer : Type 0 where
  pub replica : Replica
  pub mutexes : List Mutex  -- in the order in which they became cooperative, the same in every peer
  pub answered : (thread : ℕ) → Bool  -- it answered a call of the thread since the kernel last served one of it

abbrev pub mutex_in : List Mutex → (address : ℕ) → Option Mutex
mutex_in [] address = None
mutex_in (m ∷ mutexes) address = if m.address == address then Some m else mutex_in mutexes address

-- who gets it is counted
abbrev pub gets_more : Option ℕ → ℕ
gets_more None = 0
gets_more (Some thread) = 1

abbrev pub mutex_after : Option (Option ℕ) → Mutex → Mutex
mutex_after None m = m
mutex_after (Some owner) m = record { address = m.address; owner = owner; rank = m.rank + gets_more owner }

abbrev pub with_mutex : List Mutex → (address : ℕ) → Option (Option ℕ) → List Mutex
with_mutex [] address change = []
with_mutex (m ∷ mutexes) address change = if m.address == address then mutex_after change m ∷ mutexes else m ∷ with_mutex mutexes address change

-- an answered call ends its thread's reservation
abbrev pub reserved_still : (answered : ℕ → Bool) → (thread : ℕ) → List (Option Reservation) → List (Option Reservation)
reserved_still answered thread [] = []
reserved_still answered thread (r ∷ reserved) = (if answered thread then None else r) ∷ reserved_still answered (suc thread) reserved

-- the kernel with the owners of these mutexes
abbrev pub with_mutexes : Kernel → List Mutex → Kernel
with_mutexes kernel [] = kernel
with_mutexes kernel (m ∷ mutexes) = record (with_mutexes kernel mutexes) { owners = with_owner (with_mutexes kernel mutexes).owners m.address m.owner }

-- the kernel as a peer sees it
abbrev pub kernel_in : Kernel → Peer → Kernel
kernel_in kernel peer = record (with_mutexes kernel peer.mutexes) { reserved = reserved_still peer.answered 0 kernel.reserved }

abbrev pub cpu_in : Thread → Cpu
cpu_in thread = thread.cpu

-- the unreplicated machine that a peer is, with the core's kernel and output
abbrev pub machine_of : Kernel → (output : List ℕ) → Peer → Machine
machine_of kernel output peer = record {
  memory = peer.replica.memory;
  cpus = map cpu_in peer.replica.threads;
  kernel = kernel_in kernel peer;
  output = output;
  ended = None;
}

-- ---- one step that needs no other peer

-- the row is the thread's
abbrev pub is_row : Option ℕ → (number : ℕ) → Bool
is_row None number = false
is_row (Some thread) number = thread == number

abbrev pub is_got : Option (Option ℕ) → Bool
is_got (Some (Some thread)) = true
is_got _ = false

-- the peer behind an answered call
abbrev pub peer_after : Peer → (number : ℕ) → Thread → Call → Option (Option ℕ) → (value : ℕ) → Peer
peer_after peer number thread call change value = record {
  replica = record peer.replica { threads = slice_set peer.replica.threads number (went_on call number value thread) };
  mutexes = with_mutex peer.mutexes call.a0 change;
  answered = λ t. if t == number then true else peer.answered t;
}

-- A lock is answered where the row of its rank is its thread's. Where it is another's, or there is none so far on the page, it is not.
abbrev pub leased_answer : Rows → Peer → (number : ℕ) → Thread → Call → Mutex → Answer → Option Peer
leased_answer rows peer number thread call m Waits = None
leased_answer rows peer number thread call m (Answers change value) =
    if is_got change && not (is_row (rows call.a0 m.rank) number) then None
    else Some (peer_after peer number thread call change value)

abbrev pub leased_call : Rows → Peer → (number : ℕ) → Thread → Call → Option Mutex → Option Peer
leased_call rows peer number thread call None = None
leased_call rows peer number thread call (Some m) = leased_answer rows peer number thread call m (answer_by call.which number m.owner)

abbrev pub leased_next : Rows → Peer → (number : ℕ) → Thread → Next → Option Peer
leased_next rows peer number thread (Executes instr) = Some (record peer { replica = executed number peer.replica thread instr })
leased_next rows peer number thread (Stands (Calls call)) =
    if is_lock_or_unlock call.which then leased_call rows peer number thread call (mutex_in peer.mutexes call.a0) else None
leased_next rows peer number thread (Stands _) = None

abbrev pub leased_at : Layout → Rows → (watchdog : ℕ) → Peer → (number : ℕ) → Thread → Option Peer
leased_at layout rows watchdog peer number thread =
    if thread.since == watchdog then None
    else leased_next rows peer number thread (next layout peer.replica.backed peer.replica.memory thread.cpu)

unfoldable pub leased : Layout → Rows → (watchdog : ℕ) → Peer → (number : ℕ) → Option Peer
leased layout rows watchdog peer number = option_and_then (leased_at layout rows watchdog peer number) (slice_get peer.replica.threads number)

-- so many such steps
abbrev pub leased_run : Layout → Rows → (watchdog count : ℕ) → Peer → (number : ℕ) → Option Peer
leased_run layout rows watchdog zero peer number = Some peer
leased_run layout rows watchdog (suc n) peer number = option_and_then (λ after. leased_run layout rows watchdog n after number) (leased layout rows watchdog peer number)
