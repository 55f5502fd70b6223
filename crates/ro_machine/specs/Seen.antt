-- The machine as contracts see it.
use Rattle.std.specs.Prelude.{◌≡◌, ℕ, ◌≤◌, List, ◌++◌, length, Option, Some, None, slice_get}
use Rattle.ro_journal.specs.declared.How.{How}
use Rattle.ro_pages.specs.Held.{Held, memory_of}
use Rattle.ro_event.specs.declared.stops.Stop.{Stop}
use Rattle.ro_exec.specs.declared.Cpu.{Cpu}
use Rattle.ro_exec.specs.Next.{Stands}
use Rattle.ro_image.specs.Image.{Image}
use Rattle.ro_event.specs.declared.calls.Call.{Call}
use Rattle.ro_kernel.specs.Kernel.{Kernel, ranges_in}
use Rattle.ro_kernel.specs.State.{State}
use Rattle.ro_kernel.specs.Serve.{Served, Blocked, serve, payload_of, asked}
use Rattle.ro_plain.specs.Machine.{Program, Machine, step_by, step}
use Rattle.ro_machine.specs.declared.errors.StepError.{StepError}
use Rattle.ro_machine.specs.declared.errors.StepError.TheVariants.{NoStep, NoMemory}

pub record PlainOf : Type 0 where
  pub program : Program
  pub held : Held
  pub cpus : List Cpu
  pub kernel : Kernel
  pub ended : Option How
  pub written : List ℕ  -- what the last step wrote

-- a machine of these parts
abbrev pub machine_with : Held → List Cpu → Kernel → (output : List ℕ) → Option How → Machine
machine_with held cpus kernel output ended =
    record { memory = memory_of held.pages; cpus = cpus; kernel = kernel; output = output; ended = ended }

-- the machine that this is, where so much was written so far
abbrev pub machine_of : PlainOf → (output : List ℕ) → Machine
machine_of value output = machine_with value.held value.cpus value.kernel output value.ended

-- what holds of the parts of every machine, with places for so many threads and bytes
pub record IsWhole (image : Image) (state : State) (cpus : List Cpu) (written : List ℕ) (threads bytes : ℕ) : Type 0 where
  pub ranges_are : state.setup.ranges ≡ image.ranges
  pub heap_is : state.setup.heap ≡ image.heap
  pub all_made : length cpus ≡ length state.kernel.lives
  pub thread_room : 16 ≤ threads
  pub byte_room : 4096 ≤ bytes
  pub little : length written ≤ 4096

-- The machine has the step, whatever was written before, and this is the machine after it.
abbrev pub Steps : PlainOf → (thread : ℕ) → PlainOf → Type 0
Steps old thread new = (output : List ℕ) → step old.program (machine_of old output) thread ≡ Some (machine_of new (output ++ new.written))

-- the machine has no step of the thread
abbrev pub HasNoStep : PlainOf → (thread : ℕ) → Type 0
HasNoStep value thread = (output : List ℕ) → step value.program (machine_of value output) thread ≡ None

-- why there was no step; want of memory may come at any
abbrev pub Refuses : PlainOf → (thread : ℕ) → StepError → Type 0
Refuses value thread NoStep = HasNoStep value thread
Refuses value thread NoMemory = Unit {0}

-- the same machine
abbrev pub SameMachine : (one other : PlainOf) → Type 0
SameMachine one other = (output : List ℕ) → machine_of one output ≡ machine_of other output

-- the bytes that a vote on a call would compare, and what comes of it, by the kernel's state and the memory
abbrev pub payload_now : State → Held → Call → List ℕ
payload_now state held call = payload_of (ranges_in state.setup state.kernel) (memory_of held.pages) call

abbrev pub outcome_of : State → Held → (thread : ℕ) → Call → Served
outcome_of state held thread call = serve state.setup state.kernel thread (asked call (payload_now state held call))

-- why a call was not served
abbrev pub RefusesCall : Served → StepError → Type 0
RefusesCall served NoStep = served ≡ Blocked
RefusesCall served NoMemory = Unit {0}

-- the same of the step of a thread that stands at a stop
abbrev pub StepsFrom : PlainOf → (thread : ℕ) → Stop → PlainOf → Type 0
StepsFrom old thread stop new = (output : List ℕ) → (cpu : Cpu) → slice_get old.cpus thread ≡ Some cpu →
    step_by old.program (machine_of old output) thread cpu (Stands stop) ≡ Some (machine_of new (output ++ new.written))

abbrev pub RefusesAt : PlainOf → (thread : ℕ) → Stop → StepError → Type 0
RefusesAt value thread stop NoStep = (output : List ℕ) → (cpu : Cpu) → slice_get value.cpus thread ≡ Some cpu →
    step_by value.program (machine_of value output) thread cpu (Stands stop) ≡ None
RefusesAt value thread stop NoMemory = Unit {0}
