-- What one step of a thread leaves.
use Rattle.std.specs.Prelude.{◌≡◌, ℕ, Bool, true, false, Option, Some, None}
use Rattle.ro_event.specs.declared.stops.Stop.{Stop}
use Rattle.ro_pages.specs.Bytes.{Memory, stored}
use Rattle.ro_exec.specs.declared.Cpu.{Cpu}
use Rattle.ro_exec.specs.declared.outcome.Step.{Step}
use Rattle.ro_exec.specs.declared.outcome.Step.TheVariants.{Did, Stopped}
use Rattle.ro_exec.specs.Next.{Next, Stands, Executes, change_of, jump_stop}

-- a stop changes nothing; an instruction makes its change
abbrev pub IsStep : Next → Step → (old new : Cpu) → (before after : Memory) → Type 0
IsStep (Stands stop) step old new before after = (step ≡ Stopped stop) × (new ≡ old) × (after ≡ before)
IsStep (Executes instr) step old new before after =
    let change = change_of before old instr in (step ≡ Did) × (new ≡ change.cpu) × (after ≡ stored before change.place change.bytes)

abbrev pub IsJumpStop : Option Stop → Step → (old new after : Cpu) → Type 0
IsJumpStop None step old new after = (step ≡ Did) × (new ≡ after)
IsJumpStop (Some stop) step old new after = (step ≡ Stopped stop) × (new ≡ old)

-- a jump to a place that is no multiple of 4 is a trap
abbrev pub IsJump : (target : ℕ) → Step → (old new after : Cpu) → Type 0
IsJump target step old new after = IsJumpStop (jump_stop target) step old new after

-- A step that is done or left alone: where it is done it is the step, and else nothing changed.
abbrev pub IsQuick : Bool → Next → (old new : Cpu) → (before after : Memory) → Type 0
IsQuick true next old new before after = IsStep next Did old new before after
IsQuick false next old new before after = (new ≡ old) × (after ≡ before)
