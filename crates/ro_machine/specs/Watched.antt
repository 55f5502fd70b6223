-- What a step did, as it is told.
use Rattle.std.specs.Prelude.{◌≡◌, ℕ, ◌+◌, ◌^◌, ◌<◌, ◌≤◌, ◌||◌, nat_lt, true, false, List, [], ◌∷◌, length, None, Some, is_none, if◌then◌else◌}
use Rattle.ro_decode.specs.declared.Instr.{Instr}
use Rattle.ro_event.specs.declared.calls.Call.{Call}
use Rattle.ro_event.specs.declared.stops.Stop.{Stop}
use Rattle.ro_event.specs.declared.stops.Stop.TheVariants.{Calls, Trap}
use Rattle.ro_region.specs.declared.Range.{Range}
use Rattle.ro_pages.specs.Bytes.{Memory, Span, within}
use Rattle.ro_exec.specs.declared.Cpu.{Cpu}
use Rattle.ro_exec.specs.Meaning.{loads, stores}
use Rattle.ro_exec.specs.Next.{Layout, all_backed, Next, Stands, Executes, fetch_stop, next}
use Rattle.ro_kernel.specs.Kernel.{ranges_in}
use Rattle.ro_kernel.specs.Serve.{Served, Done, Parked, Blocked, Ends, payload_span}
use Rattle.ro_plain.specs.Machine.{Program, setup_of, Machine, served_in}
use Rattle.ro_plain.specs.Accesses.{accesses, touches, stored_span}
use Rattle.ro_plain.specs.Order.{Sync, Unlocks, Locks, Makes, Joins, Exits, Updates, Observes, Nothing, sync_of}
use Rattle.ro_machine.specs.declared.calls.Came.{Came}
use Rattle.ro_machine.specs.declared.watching.Stretch.{Stretch}
use Rattle.ro_machine.specs.declared.watching.Relation.{Relation}
use Rattle.ro_machine.specs.declared.watching.Relation.TheVariants.{Unlocks as IsUnlock, Locks as IsLock, Makes as IsMake, Joins as IsJoin, Exits as IsExit, Updates as IsUpdate, Observes as IsObserve, Nothing as IsNothing}
use Rattle.ro_machine.specs.declared.watching.Went.{Went}
use Rattle.ro_machine.specs.declared.watching.Went.TheVariants.{Executed, Trapped, Called}
use Rattle.ro_machine.specs.declared.watching.Watched.{Watched}
use Rattle.ro_machine.specs.declared.looking.Look.{Look}

abbrev pub span_of : Stretch → Span
span_of s = record { place = s.place; count = s.count }

abbrev pub sync_of_relation : Relation → Sync
sync_of_relation (IsUnlock mutex) = Unlocks mutex
sync_of_relation (IsLock mutex) = Locks mutex
sync_of_relation (IsMake thread) = Makes thread
sync_of_relation (IsJoin thread) = Joins thread
sync_of_relation IsExit = Exits
sync_of_relation (IsUpdate word) = Updates word
sync_of_relation (IsObserve word) = Observes word
sync_of_relation IsNothing = Nothing

-- what a call came to is what the kernel made of it
abbrev pub Tells : Served → Call → Came → Type 0
Tells (Done kernel effect) call came =
    (came.call ≡ call) × (came.how ≡ None) × (came.answer ≡ effect.answer) × ((a : ℕ) → within (span_of came.stored) a ≡ touches (stored_span (Done kernel effect)) a) × (came.stored.place + came.stored.count ≤ 2 ^ 32 + 4096) × (came.parked ≡ false) × (came.stores ≡ nat_lt 0 (length effect.bytes))
Tells (Parked kernel) call came = (came.call ≡ call) × (came.how ≡ None) × (came.stored.place ≡ 0) × (came.stored.count ≡ 0) × (came.parked ≡ true)
Tells Blocked call came = ⊥
Tells (Ends kernel how) call came = (came.call ≡ call) × (came.how ≡ Some how) × (came.stored.place ≡ 0) × (came.stored.count ≡ 0) × (came.parked ≡ false)

-- the bytes that a call put out, or the word that it found, are told with it
pub record TellsLoaded (ranges : List Range) (call : Call) (came : Came) : Type 0 where
  pub bytes : span_of came.loaded ≡ payload_span ranges call
  pub few : came.loaded.count ≤ 4096

-- what a step was, by the stop at which the thread stood
abbrev pub TellsStop : Program → Machine → (thread : ℕ) → Stop → Went → Type 0
TellsStop program machine thread (Calls call) (Called came) = Tells (served_in program machine thread call) call came × TellsLoaded (ranges_in (setup_of program) machine.kernel) call came
TellsStop program machine thread (Trap code) Trapped = Unit {0}
TellsStop program machine thread _ _ = ⊥

-- and by what the thread did next
abbrev pub TellsNext : Program → Machine → (thread : ℕ) → Next → Went → Type 0
TellsNext program machine thread (Executes instr) went = went ≡ Executed
TellsNext program machine thread (Stands stop) went = TellsStop program machine thread stop went

-- the bytes of the instruction, where it is read
abbrev pub code_at : Layout → Cpu → List Span
code_at layout cpu = if is_none (fetch_stop layout all_backed cpu) then record { place = cpu.pc; count = 4 } ∷ [] else []

-- what is known of a step before it is taken
pub record LooksAt (layout : Layout) (memory : Memory) (cpu : Cpu) (look : Look) : Type 0 where
  pub pc : look.pc ≡ cpu.pc
  pub code : (a : ℕ) → within (span_of look.code) a ≡ touches (code_at layout cpu) a
  pub loads_are : (instr : Instr) → next layout all_backed memory cpu ≡ Executes instr → span_of look.loads ≡ loads instr cpu
  pub stores_are : (instr : Instr) → next layout all_backed memory cpu ≡ Executes instr → span_of look.stores ≡ stores instr cpu
  pub code_few : look.code.count ≤ 4
  pub loads_few : look.loads.count ≤ 4
  pub stores_few : look.stores.count ≤ 4
  pub stores_at : look.stores.place < 2 ^ 32

-- Besides its instruction, which lies elsewhere, an atomic instruction accesses nothing but its word.
pub record IsAsOne (watched : Watched) : Type 0 where
  pub loads : (a : ℕ) → within (span_of watched.loaded) a ≡ true → within (span_of watched.atomic) a ≡ true
  pub stores : (a : ℕ) → within (span_of watched.stored) a ≡ true → within (span_of watched.atomic) a ≡ true
  pub apart : (a : ℕ) → within (span_of watched.code) a ≡ true → within (span_of watched.atomic) a ≡ false

-- A step of a thread accesses these bytes and means this for the order. No stretch has more than a page's bytes, but for the
-- bytes of a range that a call gives; those end soon enough.
pub record Sees (program : Program) (machine : Machine) (thread : ℕ) (watched : Watched) : Type 0 where
  pub reads : (a : ℕ) → touches (accesses program machine thread).reads a ≡ (within (span_of watched.loaded) a || within (span_of watched.code) a)
  pub writes : (a : ℕ) → touches (accesses program machine thread).writes a ≡ within (span_of watched.stored) a
  pub atomic : (a : ℕ) → touches (accesses program machine thread).atomic a ≡ within (span_of watched.atomic) a
  pub as_one : 0 < watched.atomic.count → IsAsOne watched
  pub means : sync_of program machine thread ≡ sync_of_relation watched.relation
  pub loaded_few : watched.loaded.count ≤ 4096
  pub code_few : watched.code.count ≤ 4096
  pub stored_low : watched.stored.place + watched.stored.count ≤ 2 ^ 32 + 4096
  pub known_thread : thread < 16
