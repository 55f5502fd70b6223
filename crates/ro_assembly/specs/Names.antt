-- The names of registers and operations.
use Rattle.std.specs.Prelude.{ℕ, List, [], ◌∷◌, ◌++◌, codes, slice_index_or}
use Rattle.ro_decode.specs.declared.AluOp.{AluOp}
use Rattle.ro_decode.specs.declared.AluOp.TheVariants.{Add, Sub, Sll, Slt, Sltu, Xor, Srl, Sra, Or, And}
use Rattle.ro_decode.specs.declared.MulDivOp.{MulDivOp}
use Rattle.ro_decode.specs.declared.MulDivOp.TheVariants.{Mul, Mulh, Mulhsu, Mulhu, Div, Divu, Rem, Remu}
use Rattle.ro_decode.specs.declared.LoadOp.{LoadOp}
use Rattle.ro_decode.specs.declared.LoadOp.TheVariants.{Lb, Lh, Lw, Lbu, Lhu}
use Rattle.ro_decode.specs.declared.StoreOp.{StoreOp}
use Rattle.ro_decode.specs.declared.StoreOp.TheVariants.{Sb, Sh, Sw}
use Rattle.ro_decode.specs.declared.BranchOp.{BranchOp}
use Rattle.ro_decode.specs.declared.BranchOp.TheVariants.{Beq, Bne, Blt, Bge, Bltu, Bgeu}
use Rattle.ro_decode.specs.declared.AtomicOp.{AtomicOp}
use Rattle.ro_decode.specs.declared.AtomicOp.TheVariants.{LoadReserved, StoreConditional, AmoSwap, AmoAdd, AmoXor, AmoAnd, AmoOr, AmoMin, AmoMax, AmoMinu, AmoMaxu}

-- x0 to x31 by the names of the calling convention
abbrev pub register_names : List (List ℕ)
register_names =
    codes "zero" ∷ codes "ra" ∷ codes "sp" ∷ codes "gp" ∷ codes "tp" ∷ codes "t0" ∷ codes "t1" ∷ codes "t2"
    ∷ codes "s0" ∷ codes "s1" ∷ codes "a0" ∷ codes "a1" ∷ codes "a2" ∷ codes "a3" ∷ codes "a4" ∷ codes "a5"
    ∷ codes "a6" ∷ codes "a7" ∷ codes "s2" ∷ codes "s3" ∷ codes "s4" ∷ codes "s5" ∷ codes "s6" ∷ codes "s7"
    ∷ codes "s8" ∷ codes "s9" ∷ codes "s10" ∷ codes "s11" ∷ codes "t3" ∷ codes "t4" ∷ codes "t5" ∷ codes "t6" ∷ []

abbrev pub register_name : (number : ℕ) → List ℕ
register_name number = slice_index_or register_names number []

abbrev pub alu_name : AluOp → List ℕ
alu_name Add = codes "add"
alu_name Sub = codes "sub"
alu_name Sll = codes "sll"
alu_name Slt = codes "slt"
alu_name Sltu = codes "sltu"
alu_name Xor = codes "xor"
alu_name Srl = codes "srl"
alu_name Sra = codes "sra"
alu_name Or = codes "or"
alu_name And = codes "and"

-- an operation on a register and an immediate
abbrev pub alu_imm_name : AluOp → List ℕ
alu_imm_name Sltu = codes "sltiu"
alu_imm_name op = alu_name op ++ codes "i"

abbrev pub muldiv_name : MulDivOp → List ℕ
muldiv_name Mul = codes "mul"
muldiv_name Mulh = codes "mulh"
muldiv_name Mulhsu = codes "mulhsu"
muldiv_name Mulhu = codes "mulhu"
muldiv_name Div = codes "div"
muldiv_name Divu = codes "divu"
muldiv_name Rem = codes "rem"
muldiv_name Remu = codes "remu"

abbrev pub load_name : LoadOp → List ℕ
load_name Lb = codes "lb"
load_name Lh = codes "lh"
load_name Lw = codes "lw"
load_name Lbu = codes "lbu"
load_name Lhu = codes "lhu"

abbrev pub store_name : StoreOp → List ℕ
store_name Sb = codes "sb"
store_name Sh = codes "sh"
store_name Sw = codes "sw"

abbrev pub branch_name : BranchOp → List ℕ
branch_name Beq = codes "beq"
branch_name Bne = codes "bne"
branch_name Blt = codes "blt"
branch_name Bge = codes "bge"
branch_name Bltu = codes "bltu"
branch_name Bgeu = codes "bgeu"

abbrev pub atomic_name : AtomicOp → List ℕ
atomic_name LoadReserved = codes "lr.w"
atomic_name StoreConditional = codes "sc.w"
atomic_name AmoSwap = codes "amoswap.w"
atomic_name AmoAdd = codes "amoadd.w"
atomic_name AmoXor = codes "amoxor.w"
atomic_name AmoAnd = codes "amoand.w"
atomic_name AmoOr = codes "amoor.w"
atomic_name AmoMin = codes "amomin.w"
atomic_name AmoMax = codes "amomax.w"
atomic_name AmoMinu = codes "amominu.w"
atomic_name AmoMaxu = codes "amomaxu.w"
