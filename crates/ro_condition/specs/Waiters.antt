-- The threads that wait on condition variables, in the order in which they began.
use Rattle.std.specs.Prelude.{ℕ, Bool, true, not, ◌&&◌, List, [], ◌∷◌, Option, map, ◌==◌, if◌then◌else◌}
use Rattle.std.specs.List.{find}
use Rattle.ro_condition.specs.declared.waiters.Waiter.{Waiter}

-- whether it is this thread that waits
abbrev pub is_of : ℕ → Waiter → Bool
is_of thread waiter = waiter.thread == thread

-- the wait of a thread; none where it doesn't wait
abbrev pub wait_of : List Waiter → (thread : ℕ) → Option Waiter
wait_of waiters thread = find (is_of thread) waiters

-- all waits but that of the thread
abbrev pub without : List Waiter → (thread : ℕ) → List Waiter
without [] thread = []
without (waiter ∷ waiters) thread = if waiter.thread == thread then waiters else waiter ∷ without waiters thread

-- whether a signal of the condition variable could reach it
abbrev pub waits_for : (condition : ℕ) → Waiter → Bool
waits_for condition waiter = (waiter.condition == condition) && not waiter.signalled

abbrev pub woken : Waiter → Waiter
woken waiter = record waiter { signalled = true }

-- the first that a signal can reach is signalled
abbrev pub with_signal : List Waiter → (condition : ℕ) → List Waiter
with_signal [] condition = []
with_signal (waiter ∷ waiters) condition =
    if waits_for condition waiter then woken waiter ∷ waiters else waiter ∷ with_signal waiters condition

-- a waiter after a broadcast
abbrev pub heard_of : (condition : ℕ) → Waiter → Waiter
heard_of condition waiter = if waits_for condition waiter then woken waiter else waiter

-- all that a signal can reach are signalled
abbrev pub with_broadcast : List Waiter → (condition : ℕ) → List Waiter
with_broadcast waiters condition = map (heard_of condition) waiters
