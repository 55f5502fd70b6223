-- What entries of decoded code say.
use Rattle.std.specs.Prelude.{◌≡◌, ◌≢◌, ◌⊎◌, ℕ, ◌+◌, ◌-◌, ◌*◌, ◌%◌, ◌^◌, ◌<◌, List, Option, Some, None, IfSome}
use Rattle.std.specs.List.{slice_get}
use Rattle.ro_decode.specs.declared.AluOp.TheVariants as alu
use Rattle.ro_decode.specs.declared.MulDivOp.TheVariants as muldiv
use Rattle.ro_decode.specs.declared.LoadOp.TheVariants as load
use Rattle.ro_decode.specs.declared.StoreOp.TheVariants as store
use Rattle.ro_decode.specs.declared.BranchOp.TheVariants as branch
use Rattle.ro_decode.specs.declared.Instr.{Instr}
use Rattle.ro_decode.specs.declared.Instr.TheVariants as instr
use Rattle.ro_decode.specs.Table.{instruction_of}
use Rattle.ro_coded.specs.declared.Op.{Op}
use Rattle.ro_coded.specs.declared.Op.TheVariants.{Fresh, Lui, Auipc, Jal, Jalr, Beq, Bne, Blt, Bge, Bltu, Bgeu, Lb, Lh, Lw, Lbu, Lhu, Sb, Sh, Sw, Addi, Slli, Slti, Sltiu, Xori, Srli, Srai, Ori, Andi, Add, Sub, Sll, Slt, Sltu, Xor, Srl, Sra, Or, And, Mul, Mulh, Mulhsu, Mulhu, Div, Divu, Rem, Remu}
use Rattle.ro_coded.specs.declared.Coded.{Coded}

-- how far it is from one word of a page to another, in bytes, as 32 bits
abbrev pub way : (from to : ℕ) → ℕ
way from to = (2 ^ 32 + 4 * to - 4 * from) % 2 ^ 32

-- the instruction that an entry of this op at a place of its page says, if it says one
unfoldable pub meant_by : Op → Coded → (at : ℕ) → Option Instr
meant_by Fresh c at = None
meant_by Lui c at = Some (instr.Lui c.rd c.imm)
meant_by Auipc c at = Some (instr.Auipc c.rd c.imm)
meant_by Jal c at = Some (instr.Jal c.rd (way at c.imm))
meant_by Jalr c at = Some (instr.Jalr c.rd c.rs1 c.imm)
meant_by Beq c at = Some (instr.Branch branch.Beq c.rs1 c.rs2 (way at c.imm))
meant_by Bne c at = Some (instr.Branch branch.Bne c.rs1 c.rs2 (way at c.imm))
meant_by Blt c at = Some (instr.Branch branch.Blt c.rs1 c.rs2 (way at c.imm))
meant_by Bge c at = Some (instr.Branch branch.Bge c.rs1 c.rs2 (way at c.imm))
meant_by Bltu c at = Some (instr.Branch branch.Bltu c.rs1 c.rs2 (way at c.imm))
meant_by Bgeu c at = Some (instr.Branch branch.Bgeu c.rs1 c.rs2 (way at c.imm))
meant_by Lb c at = Some (instr.Load load.Lb c.rd c.rs1 c.imm)
meant_by Lh c at = Some (instr.Load load.Lh c.rd c.rs1 c.imm)
meant_by Lw c at = Some (instr.Load load.Lw c.rd c.rs1 c.imm)
meant_by Lbu c at = Some (instr.Load load.Lbu c.rd c.rs1 c.imm)
meant_by Lhu c at = Some (instr.Load load.Lhu c.rd c.rs1 c.imm)
meant_by Sb c at = Some (instr.Store store.Sb c.rs1 c.rs2 c.imm)
meant_by Sh c at = Some (instr.Store store.Sh c.rs1 c.rs2 c.imm)
meant_by Sw c at = Some (instr.Store store.Sw c.rs1 c.rs2 c.imm)
meant_by Addi c at = Some (instr.AluImm alu.Add c.rd c.rs1 c.imm)
meant_by Slli c at = Some (instr.AluImm alu.Sll c.rd c.rs1 c.imm)
meant_by Slti c at = Some (instr.AluImm alu.Slt c.rd c.rs1 c.imm)
meant_by Sltiu c at = Some (instr.AluImm alu.Sltu c.rd c.rs1 c.imm)
meant_by Xori c at = Some (instr.AluImm alu.Xor c.rd c.rs1 c.imm)
meant_by Srli c at = Some (instr.AluImm alu.Srl c.rd c.rs1 c.imm)
meant_by Srai c at = Some (instr.AluImm alu.Sra c.rd c.rs1 c.imm)
meant_by Ori c at = Some (instr.AluImm alu.Or c.rd c.rs1 c.imm)
meant_by Andi c at = Some (instr.AluImm alu.And c.rd c.rs1 c.imm)
meant_by Add c at = Some (instr.Alu alu.Add c.rd c.rs1 c.rs2)
meant_by Sub c at = Some (instr.Alu alu.Sub c.rd c.rs1 c.rs2)
meant_by Sll c at = Some (instr.Alu alu.Sll c.rd c.rs1 c.rs2)
meant_by Slt c at = Some (instr.Alu alu.Slt c.rd c.rs1 c.rs2)
meant_by Sltu c at = Some (instr.Alu alu.Sltu c.rd c.rs1 c.rs2)
meant_by Xor c at = Some (instr.Alu alu.Xor c.rd c.rs1 c.rs2)
meant_by Srl c at = Some (instr.Alu alu.Srl c.rd c.rs1 c.rs2)
meant_by Sra c at = Some (instr.Alu alu.Sra c.rd c.rs1 c.rs2)
meant_by Or c at = Some (instr.Alu alu.Or c.rd c.rs1 c.rs2)
meant_by And c at = Some (instr.Alu alu.And c.rd c.rs1 c.rs2)
meant_by Mul c at = Some (instr.MulDiv muldiv.Mul c.rd c.rs1 c.rs2)
meant_by Mulh c at = Some (instr.MulDiv muldiv.Mulh c.rd c.rs1 c.rs2)
meant_by Mulhsu c at = Some (instr.MulDiv muldiv.Mulhsu c.rd c.rs1 c.rs2)
meant_by Mulhu c at = Some (instr.MulDiv muldiv.Mulhu c.rd c.rs1 c.rs2)
meant_by Div c at = Some (instr.MulDiv muldiv.Div c.rd c.rs1 c.rs2)
meant_by Divu c at = Some (instr.MulDiv muldiv.Divu c.rd c.rs1 c.rs2)
meant_by Rem c at = Some (instr.MulDiv muldiv.Rem c.rd c.rs1 c.rs2)
meant_by Remu c at = Some (instr.MulDiv muldiv.Remu c.rd c.rs1 c.rs2)

-- the instruction that an entry at a place of its page says, if it says one
abbrev pub meant : Coded → (at : ℕ) → Option Instr
meant c at = meant_by c.op c at

-- the entry that says nothing
abbrev pub silent : Coded
silent = record { op = Fresh; rd = 0; rs1 = 0; rs2 = 0; imm = 0 }

-- so far from a word of a page there is no word of that page
abbrev pub IsOutside : (at imm : ℕ) → Type 0
IsOutside at imm = (to : ℕ) → to < 1024 → way at to ≢ imm

-- the instructions that no entry at a place of its page says: those that are left to the slow step, and jumps out of the page
unfoldable pub HasNone : Instr → (at : ℕ) → Type 0
HasNone (instr.Jal rd imm) at = IsOutside at imm
HasNone (instr.Branch op rs1 rs2 imm) at = IsOutside at imm
HasNone (instr.Fence rd rs1 bits) at = Unit {0}
HasNone (instr.Atomic op rd rs1 rs2 order) at = Unit {0}
HasNone instr.Ecall at = Unit {0}
HasNone instr.Ebreak at = Unit {0}
HasNone _ at = ⊥

-- an entry for an instruction: it says it, or nothing where it has to
abbrev pub Says : Instr → (at : ℕ) → Coded → Type 0
Says instr at entry = (meant entry at ≡ Some instr) ⊎ ((entry ≡ silent) × HasNone instr at)

-- it names registers
pub record NamesRegisters (entry : Coded) : Type 0 where
  pub rd : entry.rd < 32
  pub rs1 : entry.rs1 < 32
  pub rs2 : entry.rs2 < 32

-- the entry of a word, which says nothing of a word that spells no instruction
pub record IsEntry (word at : ℕ) (entry : Coded) : Type 0 where
  pub registers : NamesRegisters entry
  pub some : IfSome (instruction_of word) (λ instr. Says instr at entry)
  pub none : instruction_of word ≡ None → entry ≡ silent

-- an entry that may stand for a word: it says nothing, or what the word spells
pub record IsCoded (word at : ℕ) (entry : Coded) : Type 0 where
  pub registers : NamesRegisters entry
  pub says : (entry.op ≡ Fresh) ⊎ (instruction_of word ≡ meant entry at)

-- entries that may stand for the words of a page
abbrev pub AreCoded : (words : ℕ → ℕ) → List Coded → Type 0
AreCoded words entries = (at : ℕ) (entry : Coded) → at < 1024 → slice_get entries at ≡ Some entry → IsCoded (words at) at entry

-- the entry at a place is that of a word
abbrev pub HasEntry : List Coded → (at word : ℕ) → Type 0
HasEntry entries at word = (entry : Coded) → slice_get entries at ≡ Some entry → IsEntry word at entry

-- the entry at a place says nothing
abbrev pub IsFresh : List Coded → (at : ℕ) → Type 0
IsFresh entries at = (entry : Coded) → slice_get entries at ≡ Some entry → entry ≡ silent

-- no entry is another but the one at a place
abbrev pub AreOthersKept : (old new : List Coded) → (at : ℕ) → Type 0
AreOthersKept old new at = (k : ℕ) → k ≢ at → slice_get new k ≡ slice_get old k
