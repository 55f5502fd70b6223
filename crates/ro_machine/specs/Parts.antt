-- Parts of a plan as they are run.
use Rattle.std.specs.Prelude.{◌≡◌, ℕ, ◌+◌, ◌<◌, List, ◌∷◌, ◌++◌, length, take, Option, Some}
use Rattle.ro_io.specs.Outside.{Rose, more}
use Rattle.ro_plain.specs.Machine.{run}
use Rattle.ro_machine.specs.declared.errors.PlanError.{PlanError}
use Rattle.ro_machine.specs.declared.errors.PlanError.TheVariants.{NoStep, SinkFailed, NoMemory}
use Rattle.ro_machine.specs.Seen.{PlainOf, machine_of, Steps, HasNoStep}

-- The machine runs these steps, whatever was written before, writes these bytes, and is then that one.
pub record Plays (old : PlainOf) (threads : List ℕ) (new : PlainOf) (bytes : List ℕ) : Type 0 where
  pub program : new.program ≡ old.program
  pub runs : (output : List ℕ) → run old.program (machine_of old output) threads ≡ Some (machine_of new (output ++ bytes))

-- all these steps were run, and what they wrote is in the sink; counts of steps and bytes went on
pub record Played (old : PlainOf) (threads : List ℕ) (new : PlainOf) (held_before held_after : Option (List ℕ)) (steps steps_after count count_after : ℕ) : Type 0 where
  pub bytes : List ℕ
  pub plays : Plays old threads new bytes
  pub held : held_after ≡ more held_before bytes
  pub steps_are : steps_after ≡ steps + length threads
  pub bytes_are : count_after ≡ count + length bytes

pub record LacksOne (old : PlainOf) (threads : List ℕ) (held_before held_after : Option (List ℕ)) (steps place : ℕ) : Type 0 where
  pub played : List ℕ
  pub thread : ℕ
  pub rest : List ℕ
  pub mid : PlainOf
  pub bytes : List ℕ
  pub all : threads ≡ played ++ thread ∷ rest
  pub plays : Plays old played mid bytes
  pub none : HasNoStep mid thread
  pub place_is : place ≡ steps + length played
  pub held : held_after ≡ more held_before bytes

pub record BreaksIn (old : PlainOf) (threads : List ℕ) (held_before held_after : Option (List ℕ)) (taken : ℕ) : Type 0 where
  pub played : List ℕ
  pub thread : ℕ
  pub rest : List ℕ
  pub mid : PlainOf
  pub after : PlainOf
  pub bytes : List ℕ
  pub all : threads ≡ played ++ thread ∷ rest
  pub plays : Plays old played mid bytes
  pub steps : Steps mid thread after
  pub short : taken < length after.written
  pub held : held_after ≡ more held_before (bytes ++ take taken after.written)

pub record StopsIn (old : PlainOf) (threads : List ℕ) (held_before held_after : Option (List ℕ)) : Type 0 where
  pub played : List ℕ
  pub rest : List ℕ
  pub mid : PlainOf
  pub bytes : List ℕ
  pub all : threads ≡ played ++ rest
  pub plays : Plays old played mid bytes
  pub held : held_after ≡ more held_before bytes

-- Why these steps were not all run, where the sink's count of failures went from one number to the other: it stays where the sink didn't fail.
abbrev pub Halts : (old : PlainOf) → (threads : List ℕ) → (held_before held_after : Option (List ℕ)) → (steps before after : ℕ) → PlanError → Type 0
Halts old threads h g steps before after (NoStep place) = LacksOne old threads h g steps place × (after ≡ before)
Halts old threads h g steps before after (SinkFailed taken) = BreaksIn old threads h g taken × Rose before after
Halts old threads h g steps before after NoMemory = StopsIn old threads h g × (after ≡ before)
