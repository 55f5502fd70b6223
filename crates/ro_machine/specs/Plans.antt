-- What comes of running a plan.
use Rattle.std.specs.Prelude.{◌≡◌, ℕ, ◌<◌, ◌≤◌, List, ◌++◌, length, take, slice_index, Option, Some, None}
use Rattle.ro_journal.specs.declared.How.{How}
use Rattle.ro_journal.specs.declared.How.TheVariants.{Deadlock}
use Rattle.ro_io.specs.Outside.{Rose, more}
use Rattle.ro_plain.specs.Machine.{Program, Machine, opening, step, run}
use Rattle.ro_machine.specs.declared.errors.PlanError.{PlanError}
use Rattle.ro_machine.specs.declared.errors.PlanError.TheVariants.{NoStep, SinkFailed, NoMemory}

-- the machine after so many steps of the plan
pub record Reaches (program : Program) (plan : List ℕ) (count : ℕ) (machine : Machine) : Type 0 where
  pub within : count ≤ length plan
  pub runs : run program (opening program) (take count plan) ≡ Some machine

-- no thread has a step
abbrev pub IsStuck : Program → Machine → Type 0
IsStuck program machine = (thread : ℕ) → step program machine thread ≡ None

-- some thread has a step
abbrev pub MayGoOn : Program → Machine → Type 0
MayGoOn program machine = (thread : ℕ) × (after : Machine) × (step program machine thread ≡ Some after)

-- how a program is that has not ended: none where some thread has a step, and a deadlock where none has
abbrev pub IsLeft : Program → Machine → Option How → Type 0
IsLeft program machine None = MayGoOn program machine
IsLeft program machine (Some how) = (how ≡ Deadlock) × IsStuck program machine

-- how the machine has ended, or how it is left
abbrev pub EndsAs : Program → Machine → Option How → Option How → Type 0
EndsAs program machine (Some how) answer = answer ≡ Some how
EndsAs program machine None answer = IsLeft program machine answer

-- The plan was run to its end, and the sink, which held `old`, got the machine's output.
pub record RunsPlan (program : Program) (plan : List ℕ) (old new : Option (List ℕ)) (how : Option How) (bytes : ℕ) : Type 0 where
  pub machine : Machine
  pub runs : run program (opening program) plan ≡ Some machine
  pub held : new ≡ more old machine.output
  pub bytes_are : bytes ≡ length machine.output
  pub how_is : EndsAs program machine machine.ended how

-- the plan's step at this place, the first that does not exist; the sink got the output of the steps before it
pub record LacksStep (program : Program) (plan : List ℕ) (old new : Option (List ℕ)) (place : ℕ) : Type 0 where
  pub machine : Machine
  pub reaches : Reaches program plan place machine
  pub within : place < length plan
  pub none : step program machine (slice_index plan place) ≡ None
  pub held : new ≡ more old machine.output

-- The sink failed at what the step at a place wrote, of which it took so many bytes.
pub record BreaksOff (program : Program) (plan : List ℕ) (old new : Option (List ℕ)) (taken : ℕ) : Type 0 where
  pub place : ℕ
  pub machine : Machine
  pub after : Machine
  pub payload : List ℕ
  pub reaches : Reaches program plan place machine
  pub within : place < length plan
  pub steps : step program machine (slice_index plan place) ≡ Some after
  pub writes : after.output ≡ machine.output ++ payload
  pub short : taken < length payload
  pub held : new ≡ more old (machine.output ++ take taken payload)

-- memory was wanting after some steps; the sink got their output
pub record StopsShort (program : Program) (plan : List ℕ) (old new : Option (List ℕ)) : Type 0 where
  pub place : ℕ
  pub machine : Machine
  pub reaches : Reaches program plan place machine
  pub held : new ≡ more old machine.output

-- Why a plan was not run to its end, where the sink's count of failures went from one number to the other: it stays where the sink
-- didn't fail.
abbrev pub Fails : Program → (plan : List ℕ) → (old new : Option (List ℕ)) → (before after : ℕ) → PlanError → Type 0
Fails program plan old new before after (NoStep place) = LacksStep program plan old new place × (after ≡ before)
Fails program plan old new before after (SinkFailed taken) = BreaksOff program plan old new taken × Rose before after
Fails program plan old new before after NoMemory = StopsShort program plan old new × (after ≡ before)
