-- A run of a thread in a memory, with no faults.
use Rattle.std.specs.Prelude.{◌≡◌, ◌⊎◌, ◌<◌, IsSome, ℕ, zero, suc, ◌+◌, Option, Some, None, ◌==◌, if◌then◌else◌}
use Rattle.std.specs.Option.{option_and_then}
use Rattle.ro_decode.specs.declared.Instr.{Instr}
use Rattle.ro_event.specs.declared.stops.Stop.{Stop}
use Rattle.ro_pages.specs.Bytes.{Memory, stored}
use Rattle.ro_exec.specs.Next.{Layout, Backed, Next, Stands, Executes, next, change_of}
use Rattle.ro_thread.specs.declared.Thread.{Thread}
use Rattle.ro_thread.specs.Stops.{standing}

-- a thread and the memory that it runs in
pub record Running : Type 0 where
  pub thread : Thread
  pub memory : Memory

-- one plain instruction
abbrev pub after_instruction : Running → Instr → Running
after_instruction running instr =
    let change = change_of running.memory running.thread.cpu instr in
    record {
      thread = record running.thread { cpu = change.cpu; since = running.thread.since + 1; done = running.thread.done + 1 };
      memory = stored running.memory change.place change.bytes;
    }

abbrev pub after_next : Running → Next → Option Running
after_next running (Executes instr) = Some (after_instruction running instr)
after_next running (Stands stop) = None

-- the next instruction, where no stop stands at it
abbrev pub one_instruction : Layout → (watchdog : ℕ) → Backed → Running → Option Running
one_instruction layout watchdog backed running =
    if running.thread.since == watchdog then None
    else after_next running (next layout backed running.memory running.thread.cpu)

-- so many instructions, where no stop stands at one of them
abbrev pub instructions : Layout → (watchdog : ℕ) → Backed → (count : ℕ) → Running → Option Running
instructions layout watchdog backed zero running = Some running
instructions layout watchdog backed (suc n) running = option_and_then (instructions layout watchdog backed n) (one_instruction layout watchdog backed running)

-- A run of at most so many instructions: these were executed, and then the thread stands at the stop, or it has done all of them.
pub record IsRun (layout : Layout) (watchdog : ℕ) (backed : Backed) (most count : ℕ) (stop : Option Stop) (old new : Running) : Type 0 where
  pub runs : instructions layout watchdog backed count old ≡ Some new
  pub arrives : ((count ≡ most) × (stop ≡ None)) ⊎ ((count < most) × IsSome stop × (stop ≡ standing layout watchdog backed new.memory new.thread.cpu new.thread.since))
