-- The address that a load, a store or an atomic instruction accesses.
use Rattle.std.specs.Prelude.{ℕ, Option, Some, None}
use Rattle.std.specs.Option.{option_and_then}
use Rattle.ro_decode.specs.declared.Instr.{Instr}
use Rattle.ro_decode.specs.declared.Instr.TheVariants.{Load, Store, Atomic}
use Rattle.ro_decode.specs.Table.{instruction_of}
use Rattle.ro_exec.specs.declared.Cpu.{Cpu}
use Rattle.ro_exec.specs.Registers.{register}
use Rattle.ro_exec.specs.Meaning.{loads, stores}

-- where the bytes stand that a load, a store or an atomic instruction accesses
abbrev pub touched_by : Cpu → Instr → Option ℕ
touched_by cpu (Load op rd rs1 imm) = Some (loads (Load op rd rs1 imm) cpu).place
touched_by cpu (Store op rs1 rs2 imm) = Some (stores (Store op rs1 rs2 imm) cpu).place
touched_by cpu (Atomic op rd rs1 rs2 order) = Some (register cpu rs1)
touched_by cpu _ = None

-- the same of the instruction that a word spells
abbrev pub touched_at : (word : ℕ) → Cpu → Option ℕ
touched_at word cpu = option_and_then (touched_by cpu) (instruction_of word)
