-- A thread whose registers are taken out of the machine.
use Rattle.std.specs.Prelude.{◌≡◌, ◌+◌, ◌*◌, ◌%◌, ◌^◌, ◌<◌, ◌≤◌, [], true, None, Some, length, slice_get, slice_set}
use Rattle.ro_decode.specs.declared.Instr.{Instr}
use Rattle.ro_decode.specs.Table.{instruction_of}
use Rattle.ro_pages.specs.Bytes.{Memory, number_at}
use Rattle.ro_pages.specs.Held.{has_page}
use Rattle.ro_exec.specs.declared.Cpu.{Cpu}
use Rattle.ro_exec.specs.Meaning.{loads, stores}
use Rattle.ro_exec.specs.Stretches.{IsClear, IsKept, AreOpenTo}
use Rattle.ro_kernel.specs.Kernel.{lives_on, ranges_in}
use Rattle.ro_region.specs.declared.Kind.TheVariants.{Read, Write}
use Rattle.ro_plain.specs.Machine.{setup_of, layout_in}
use Rattle.ro_machine.specs.declared.lane.Lane.{Lane}
use Rattle.ro_machine.specs.declared.looking.Look.{Look}
use Rattle.ro_machine.specs.Seen.{PlainOf}
use Rattle.ro_machine.specs.Watched.{span_of}

abbrev pub cpu_of : Lane → Cpu
cpu_of lane = record { registers = lane.registers; pc = lane.pc }

-- the machine with the thread's registers put back
abbrev pub closed : PlainOf → Lane → PlainOf
closed plain lane = record plain { cpus = slice_set plain.cpus lane.thread (cpu_of lane) }

-- the thread may step, and its stretches of code and data are such
pub record IsOpen (plain : PlainOf) (lane : Lane) : Type 0 where
  pub going : plain.ended ≡ None
  pub live : lives_on plain.kernel lane.thread ≡ true
  pub empty : plain.written ≡ []
  pub few : lane.thread < 16
  pub there : lane.thread < length plain.cpus
  pub aligned : lane.code.from % 4 ≡ 0
  pub bounded : lane.code.from + 4 * lane.code.words ≤ 2 ^ 32
  pub clear : IsClear (layout_in plain.program plain.kernel) (has_page plain.held.pages) lane.code
  pub kept : IsKept (slice_get plain.held.numbers) lane.code
  pub reads : AreOpenTo (ranges_in (setup_of plain.program) plain.kernel) (has_page plain.held.pages) (slice_get plain.held.numbers) Read lane.reads.stretches
  pub writes : AreOpenTo (ranges_in (setup_of plain.program) plain.kernel) (has_page plain.held.pages) (slice_get plain.held.numbers) Write lane.writes.stretches

-- what the word at pc, if it spells an instruction, makes it access
pub record Spells (memory : Memory) (cpu : Cpu) (look : Look) : Type 0 where
  pub pc : look.pc ≡ cpu.pc
  pub code : span_of look.code ≡ record { place = cpu.pc; count = 4 }
  pub loads_are : (instr : Instr) → instruction_of (number_at memory cpu.pc 4) ≡ Some instr → span_of look.loads ≡ loads instr cpu
  pub stores_are : (instr : Instr) → instruction_of (number_at memory cpu.pc 4) ≡ Some instr → span_of look.stores ≡ stores instr cpu
  pub loads_few : look.loads.count ≤ 4
  pub stores_few : look.stores.count ≤ 4
  pub stores_at : look.stores.place < 2 ^ 32
