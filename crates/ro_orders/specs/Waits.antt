-- Waits on condition variables along an execution.
use Rattle.std.specs.Prelude.{◌≡◌, ◌⊎◌, ℕ, ◌<◌, List, take, Option, Some, None, slice_get}
use Rattle.std.specs.Option.{option_and_then}
use Rattle.ro_event.specs.declared.calls.Call.{Call}
use Rattle.ro_event.specs.declared.calls.Which.TheVariants.{Function}
use Rattle.ro_event.specs.declared.functions.Function.TheVariants.{Signal, Broadcast}
use Rattle.ro_event.specs.declared.stops.Stop.TheVariants.{Calls}
use Rattle.ro_event.specs.Effects.{Effect}
use Rattle.ro_exec.specs.Next.{Next, Stands}
use Rattle.ro_kernel.specs.Kernel.{Kernel}
use Rattle.ro_kernel.specs.Serve.{Served, Done, Parked}
use Rattle.ro_plain.specs.Machine.{Program, Machine, opening, served_in, next_of, steppable, run}

abbrev pub served_next : Program → Machine → ℕ → Next → Option (Call × Served)
served_next program machine thread (Stands (Calls call)) = Some (call, served_in program machine thread call)
served_next program machine thread _ = None

-- the call at which the thread's step stands, if any, and what comes of it
abbrev pub call_served_in : Program → Machine → (thread : ℕ) → Option (Call × Served)
call_served_in program machine thread =
    option_and_then (λ cpu. served_next program machine thread (next_of program machine cpu)) (steppable machine thread)

-- the thread's step begins a wait on the condition variable
pub record BeginsWait (program : Program) (machine : Machine) (thread condition : ℕ) : Type 0 where
  pub call : Call
  pub after : Kernel
  pub served : call_served_in program machine thread ≡ Some (call, Parked after)
  pub on : call.a0 ≡ condition

-- the thread's step is a signal or a broadcast of the condition variable
pub record Wakes (program : Program) (machine : Machine) (thread condition : ℕ) : Type 0 where
  pub call : Call
  pub after : Kernel
  pub effect : Effect
  pub served : call_served_in program machine thread ≡ Some (call, Done after effect)
  pub by : (call.which ≡ Function Signal) ⊎ (call.which ≡ Function Broadcast)
  pub on : call.a0 ≡ condition

-- the place in an execution at which the thread began to wait on the condition variable
pub record Began (program : Program) (threads : List ℕ) (thread condition : ℕ) : Type 0 where
  pub first : ℕ
  pub machine : Machine
  pub reached : run program (opening program) (take first threads) ≡ Some machine
  pub own : slice_get threads first ≡ Some thread
  pub begins : BeginsWait program machine thread condition

-- and a place behind it at which a thread, whichever, signals that, or broadcasts
pub record BeganAndWoken (program : Program) (threads : List ℕ) (thread condition : ℕ) : Type 0 where
  pub wait : Began program threads thread condition
  pub place : ℕ
  pub behind : wait.first < place
  pub waker : ℕ
  pub machine : Machine
  pub reached : run program (opening program) (take place threads) ≡ Some machine
  pub step : slice_get threads place ≡ Some waker
  pub wakes : Wakes program machine waker condition
