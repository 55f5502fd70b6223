-- The text of an instruction.
use Rattle.std.specs.Prelude.{ℕ, ℤ, ◌+◌, ◌-◌, ◌/◌, false, List, ◌++◌, Option, Some, None, length, replicate, codes}
use Rattle.std.specs.Fmt.{digits, signed_decimal}
use Rattle.ro_decode.specs.declared.AtomicOp.{AtomicOp}
use Rattle.ro_decode.specs.declared.AtomicOp.TheVariants.{LoadReserved}
use Rattle.ro_decode.specs.declared.Instr.{Instr}
use Rattle.ro_decode.specs.declared.Instr.TheVariants.{Lui, Auipc, Jal, Jalr, Branch, Load, Store, AluImm, Alu, MulDiv, Fence, Atomic, Ecall, Ebreak}
use Rattle.ro_decode.specs.Table.{instruction_of}
use Rattle.ro_alu.specs.Results.{low_word, signed}
use Rattle.ro_assembly.specs.Names.{register_name, alu_name, alu_imm_name, muldiv_name, load_name, store_name, branch_name, atomic_name}

abbrev pub hexadecimal : ℕ → List ℕ
hexadecimal n = digits 16 false n

-- with zeros before it, up to eight digits
abbrev pub eight_digits : ℕ → List ℕ
eight_digits n = replicate (8 - length (hexadecimal n)) 48 ++ hexadecimal n

-- the upper 20 bits of a number
abbrev pub upper : ℕ → List ℕ
upper imm = codes "0x" ++ hexadecimal (imm / 4096)

-- the place that a jump from pc goes to
abbrev pub place : (pc imm : ℕ) → List ℕ
place pc imm = eight_digits (low_word (pc + imm))

-- an address by a register and how far from there it is
abbrev pub based : (rs1 : ℕ) → (offset : ℤ) → List ℕ
based rs1 offset = signed_decimal offset ++ codes "(" ++ register_name rs1 ++ codes ")"

-- an operation with two operands, and with three
abbrev pub two : (name one other : List ℕ) → List ℕ
two name one other = name ++ codes " " ++ one ++ codes ", " ++ other

abbrev pub three : (name one second third : List ℕ) → List ℕ
three name one second third = two name one second ++ codes ", " ++ third

-- the address that a register alone gives
abbrev pub pointed : (rs1 : ℕ) → List ℕ
pointed rs1 = codes "(" ++ register_name rs1 ++ codes ")"

-- LR has no operand
abbrev pub atomic_text : AtomicOp → (rd rs1 rs2 : ℕ) → List ℕ
atomic_text LoadReserved rd rs1 rs2 = two (atomic_name LoadReserved) (register_name rd) (pointed rs1)
atomic_text op rd rs1 rs2 = three (atomic_name op) (register_name rd) (register_name rs2) (pointed rs1)

-- the text of an instruction at pc; what a fence or an atomic instruction orders is left out
abbrev pub text_of : (pc : ℕ) → Instr → List ℕ
text_of pc (Lui rd imm) = two (codes "lui") (register_name rd) (upper imm)
text_of pc (Auipc rd imm) = two (codes "auipc") (register_name rd) (upper imm)
text_of pc (Jal rd imm) = two (codes "jal") (register_name rd) (place pc imm)
text_of pc (Jalr rd rs1 imm) = two (codes "jalr") (register_name rd) (based rs1 (signed imm))
text_of pc (Branch op rs1 rs2 imm) = three (branch_name op) (register_name rs1) (register_name rs2) (place pc imm)
text_of pc (Load op rd rs1 imm) = two (load_name op) (register_name rd) (based rs1 (signed imm))
text_of pc (Store op rs1 rs2 imm) = two (store_name op) (register_name rs2) (based rs1 (signed imm))
text_of pc (AluImm op rd rs1 imm) = three (alu_imm_name op) (register_name rd) (register_name rs1) (signed_decimal (signed imm))
text_of pc (Alu op rd rs1 rs2) = three (alu_name op) (register_name rd) (register_name rs1) (register_name rs2)
text_of pc (MulDiv op rd rs1 rs2) = three (muldiv_name op) (register_name rd) (register_name rs1) (register_name rs2)
text_of pc (Fence rd rs1 bits) = codes "fence"
text_of pc (Atomic op rd rs1 rs2 order) = atomic_text op rd rs1 rs2
text_of pc Ecall = codes "ecall"
text_of pc Ebreak = codes "ebreak"

-- the text of what a word spells, which may be no instruction
abbrev pub text_with : (word pc : ℕ) → Option Instr → List ℕ
text_with word pc None = codes ".word 0x" ++ eight_digits word
text_with word pc (Some instr) = text_of pc instr

abbrev pub word_text : (word pc : ℕ) → List ℕ
word_text word pc = text_with word pc (instruction_of word)
