-- What a lease got, where whoever asks gets the mutex: so a lease is judged before the rows of the lock page are known, and held against them later.
use Rattle.std.specs.Prelude.{◌≡◌, ℕ, zero, suc, ◌++◌, Bool, false, ◌&&◌, is_some, if◌then◌else◌, List, [], ◌∷◌, Option, Some, None, slice_get}
use Rattle.std.specs.Option.{option_map_or}
use Rattle.ro_event.specs.declared.calls.Call.{Call}
use Rattle.ro_event.specs.declared.stops.Stop.{Stop}
use Rattle.ro_event.specs.declared.stops.Stop.TheVariants.{Calls}
use Rattle.ro_exec.specs.Next.{Layout, Next, Stands, Executes, next}
use Rattle.ro_orders.specs.Turns.{is_lock_or_unlock}
use Rattle.ro_orders.specs.Answers.{Answer, Answers, Waits, answer_by}
use Rattle.ro_orders.specs.Copies.{Rows}
use Rattle.ro_peer.specs.declared.mutexes.Mutex.{Mutex}
use Rattle.ro_peer.specs.Peers.{Peer, mutex_in, is_got, leased}

-- a thread gets a mutex as the so-manieth
pub record Get : Type 0 where
  pub mutex : ℕ
  pub rank : ℕ
  pub thread : ℕ

-- rows by which whoever asks gets the mutex
abbrev pub asker : (number : ℕ) → Rows
asker number = λ mutex rank. Some number

-- what a thread gets by its next step
abbrev pub get_answer : (number : ℕ) → Call → Mutex → Answer → List Get
get_answer number call m Waits = []
get_answer number call m (Answers change value) = if is_got change then record { mutex = call.a0; rank = m.rank; thread = number } ∷ [] else []

abbrev pub get_call : (number : ℕ) → Call → Option Mutex → List Get
get_call number call None = []
get_call number call (Some m) = get_answer number call m (answer_by call.which number m.owner)

abbrev pub get_next : Peer → (number : ℕ) → Next → List Get
get_next peer number (Executes instr) = []
get_next peer number (Stands (Calls call)) = if is_lock_or_unlock call.which then get_call number call (mutex_in peer.mutexes call.a0) else []
get_next peer number (Stands _) = []

abbrev pub get_of : Layout → Peer → (number : ℕ) → List Get
get_of layout peer number = option_map_or (λ thread. get_next peer number (next layout peer.replica.backed peer.replica.memory thread.cpu)) (slice_get peer.replica.threads number) []

-- what a lease of so many steps got
abbrev pub got_in : Layout → (watchdog count : ℕ) → Peer → (number : ℕ) → List Get
got_in layout watchdog zero peer number = []
got_in layout watchdog (suc n) peer number =
    get_of layout peer number ++ option_map_or (λ after. got_in layout watchdog n after number) (leased layout (asker number) watchdog peer number) []

-- each has its row
abbrev pub InRows : Rows → List Get → Type 0
InRows rows [] = Unit {0}
InRows rows (get ∷ gets) = (rows get.mutex get.rank ≡ Some get.thread) × InRows rows gets

-- a call that the peer answers itself is no stop
abbrev pub is_own_call : List Mutex → Stop → Bool
is_own_call mutexes (Calls call) = is_lock_or_unlock call.which && is_some (mutex_in mutexes call.a0)
is_own_call mutexes stop = false

-- a stop that needs a vote
abbrev pub voted : List Mutex → Option Stop → Option Stop
voted mutexes None = None
voted mutexes (Some stop) = if is_own_call mutexes stop then None else Some stop
