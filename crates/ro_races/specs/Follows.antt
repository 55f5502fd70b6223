-- A run that is checked, as far as it has come.
use Rattle.std.specs.Prelude.{◌≡◌, ℕ, suc, ◌+◌, ◌-◌, ◌<◌, ◌≤◌, ◌⊎◌, ◌&&◌, not, Bool, true, List, length, take, slice_index, Option, Some, None, slice_get}
use Rattle.ro_plain.specs.Machine.{Program, Machine, opening, run, step, IsExecution}
use Rattle.ro_plain.specs.Accesses.{Accesses, touches}
use Rattle.ro_plain.specs.Order.{accesses_at}
use Rattle.ro_machine.specs.declared.lane.Lane.{Lane}
use Rattle.ro_machine.specs.Lanes.{closed}
use Rattle.ro_machine.specs.Seen.{machine_of}
use Rattle.ro_machine.specs.Plans.{Reaches}
use Rattle.ro_races.specs.declared.checking.Checker.{Checker}
use Rattle.ro_races.specs.declared.shadows.Hit.{Hit}
use Rattle.ro_races.specs.declared.sources.Source.{Source}
use Rattle.ro_races.specs.declared.found.Found.{Found}
use Rattle.ro_races.specs.declared.found.Found.TheVariants.{NoRace, Pair}
use Rattle.ro_races.specs.declared.found.RacesError.{RacesError}
use Rattle.ro_races.specs.declared.found.RacesError.TheVariants.{NoStep, NoMemory}
use Rattle.ro_races.specs.Clocks.{Clock as ClockOf, Knows, Past}
use Rattle.ro_races.specs.Seen.{known_in}
use Rattle.ro_races.specs.Shadows.{marks_at, reads_of, writes_of}
use Rattle.ro_races.specs.First.{IsRace, HasNoRace, IsFirstRace}

-- For each thread, one more than the last of the first so many places at which it accesses a byte; 0 where there is none.
pub record MarkedBy (threads : List ℕ) (count : ℕ) (touch : ℕ → Bool) (clock : ClockOf) : Type 0 where
  pub all : (place thread : ℕ) → place < count → slice_get threads place ≡ Some thread → touch place ≡ true → place < clock thread
  pub only : (thread : ℕ) → (clock thread ≡ 0) ⊎ ((place : ℕ) × (clock thread ≡ suc place) × (place < count) × (slice_get threads place ≡ Some thread) × (touch place ≡ true))

-- the first race of a run, or that it has none
abbrev pub IsFound : Program → List ℕ → Found → Type 0
IsFound program threads NoRace = HasNoRace program threads
IsFound program threads (Pair i j byte) = IsFirstRace program threads i j byte

-- the first race, or that none has its second step among the first so many
abbrev pub IsFoundIn : Program → List ℕ → (count : ℕ) → Found → Type 0
IsFoundIn program threads count NoRace = (i j byte : ℕ) → IsRace program threads i j byte → count ≤ j
IsFoundIn program threads count (Pair i j byte) = IsFirstRace program threads i j byte

-- the bytes that a step reads and writes by plain accesses, and those that it reads and writes by an atomic instruction
abbrev pub reads_plainly : Accesses → (byte : ℕ) → Bool
reads_plainly a byte = touches a.reads byte && not (touches a.atomic byte)

abbrev pub writes_plainly : Accesses → (byte : ℕ) → Bool
writes_plainly a byte = touches a.writes byte && not (touches a.atomic byte)

abbrev pub reads_as_one : Accesses → (byte : ℕ) → Bool
reads_as_one a byte = touches a.reads byte && touches a.atomic byte

abbrev pub writes_as_one : Accesses → (byte : ℕ) → Bool
writes_as_one a byte = touches a.writes byte && touches a.atomic byte

-- A checker has come so far in a run of these threads.
pub record Follows (program : Program) (threads : List ℕ) (c : Checker) : Type 0 where
  pub output : List ℕ
  pub same_program : c.plain.program ≡ program
  pub runs : run program (opening program) (take c.steps threads) ≡ Some (machine_of c.plain output)
  pub short : c.steps ≤ length threads
  pub knows : (source : Source) → Knows program threads (known_in c.rows.items c.words.entries source) (Past program threads c.steps source)
  pub reads_marked : (byte : ℕ) → MarkedBy threads c.steps (λ place. reads_plainly (accesses_at program threads place) byte) (marks_at c.reads.items byte)
  pub writes_marked : (byte : ℕ) → MarkedBy threads c.steps (λ place. writes_plainly (accesses_at program threads place) byte) (marks_at c.writes.items byte)
  pub words_read : (byte : ℕ) → MarkedBy threads c.steps (λ place. reads_as_one (accesses_at program threads place) byte) (marks_at (reads_of c.atomics) byte)
  pub words_written : (byte : ℕ) → MarkedBy threads c.steps (λ place. writes_as_one (accesses_at program threads place) byte) (marks_at (writes_of c.atomics) byte)
  pub found_is : IsFoundIn program threads c.steps c.found

-- a checker with the registers of an open thread put back
abbrev pub put_back : Checker → Lane → Checker
put_back c lane = record c { plain = closed c.plain lane }

abbrev pub notes : Found → Option Hit → (place : ℕ) → Found
notes NoRace None place = NoRace
notes NoRace (Some hit) place = Pair (hit.mark - 1) place hit.byte
notes (Pair i j byte) hit place = Pair i j byte

-- the plan's step at this place, the first that does not exist
pub record LacksStep (program : Program) (threads : List ℕ) (place : ℕ) : Type 0 where
  pub machine : Machine
  pub reaches : Reaches program threads place machine
  pub within : place < length threads
  pub none : step program machine (slice_index threads place) ≡ None

-- why a run was not checked to its end; want of memory may come at any
abbrev pub Lacks : Program → List ℕ → RacesError → Type 0
Lacks program threads (NoStep place) = LacksStep program threads place
Lacks program threads NoMemory = Unit {0}

-- all steps of a run exist, and this was found in it
pub record Checks (program : Program) (threads : List ℕ) (found : Found) : Type 0 where
  pub runs : IsExecution program threads
  pub found_is : IsFound program threads found

-- these steps stand in the run from a place on
abbrev pub StandsAt : (threads : List ℕ) → (place : ℕ) → (part : List ℕ) → Type 0
StandsAt threads place part = (i thread : ℕ) → slice_get part i ≡ Some thread → slice_get threads (place + i) ≡ Some thread
