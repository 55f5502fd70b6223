-- An instruction in range is read back from its word.
use Rattle.std.specs.Prelude.{◌≡◌, ℕ, ◌<◌, false, Some, ◌==◌}
use Rattle.std.proofs.Common.{rules, lit<, ◌∙◌, refl, subst, sym}
use Rattle.ro_decode.specs.declared.AluOp.{AluOp}
use Rattle.ro_decode.specs.declared.AluOp.TheVariants.{Add, Sub, Sll, Slt, Sltu, Xor, Srl, Sra, Or, And}
use Rattle.ro_decode.specs.declared.MulDivOp.{MulDivOp}
use Rattle.ro_decode.specs.declared.MulDivOp.TheVariants.{Mul, Mulh, Mulhsu, Mulhu, Div, Divu, Rem, Remu}
use Rattle.ro_decode.specs.declared.LoadOp.{LoadOp}
use Rattle.ro_decode.specs.declared.LoadOp.TheVariants.{Lb, Lh, Lw, Lbu, Lhu}
use Rattle.ro_decode.specs.declared.StoreOp.{StoreOp}
use Rattle.ro_decode.specs.declared.StoreOp.TheVariants.{Sb, Sh, Sw}
use Rattle.ro_decode.specs.declared.BranchOp.{BranchOp}
use Rattle.ro_decode.specs.declared.BranchOp.TheVariants.{Beq, Bne, Blt, Bge, Bltu, Bgeu}
use Rattle.ro_decode.specs.declared.AtomicOp.{AtomicOp}
use Rattle.ro_decode.specs.declared.AtomicOp.TheVariants.{LoadReserved, StoreConditional, AmoSwap, AmoAdd, AmoXor, AmoAnd, AmoOr, AmoMin, AmoMax, AmoMinu, AmoMaxu}
use Rattle.ro_decode.specs.declared.Instr.{Instr}
use Rattle.ro_decode.specs.declared.Instr.TheVariants.{Lui, Auipc, Jal, Jalr, Branch, Load, Store, AluImm, Alu, MulDiv, Fence, Atomic, Ecall, Ebreak}
use Rattle.ro_decode.specs.Fields.{opcode_in, rd_in, funct3_in, rs1_in, rs2_in, funct7_in, i_immediate, s_immediate, b_immediate, u_immediate, j_immediate, field}
use Rattle.ro_decode.specs.Table.{InRange, IsRegister, IsSigned, r_word, i_word, word_of, instruction_of, load_with, store_with, branch_with, muldiv_with, alu_with, atomic_in, load_funct3, store_funct3, branch_funct3, muldiv_funct3, alu_funct3, alu_funct7, atomic_funct5, IsAtomicOperand}

-- the operation of its code
load_back : (op : LoadOp) → (load_with (load_funct3 op) ≡ Some op) × (load_funct3 op < 8)
load_back Lb = (refl, lit< tt)
load_back Lh = (refl, lit< tt)
load_back Lw = (refl, lit< tt)
load_back Lbu = (refl, lit< tt)
load_back Lhu = (refl, lit< tt)

-- the operation of its code
store_back : (op : StoreOp) → (store_with (store_funct3 op) ≡ Some op) × (store_funct3 op < 8)
store_back Sb = (refl, lit< tt)
store_back Sh = (refl, lit< tt)
store_back Sw = (refl, lit< tt)

-- the operation of its code
branch_back : (op : BranchOp) → (branch_with (branch_funct3 op) ≡ Some op) × (branch_funct3 op < 8)
branch_back Beq = (refl, lit< tt)
branch_back Bne = (refl, lit< tt)
branch_back Blt = (refl, lit< tt)
branch_back Bge = (refl, lit< tt)
branch_back Bltu = (refl, lit< tt)
branch_back Bgeu = (refl, lit< tt)

-- the operation of its code
muldiv_back : (op : MulDivOp) → (muldiv_with (muldiv_funct3 op) ≡ Some op) × (muldiv_funct3 op < 8)
muldiv_back Mul = (refl, lit< tt)
muldiv_back Mulh = (refl, lit< tt)
muldiv_back Mulhsu = (refl, lit< tt)
muldiv_back Mulhu = (refl, lit< tt)
muldiv_back Div = (refl, lit< tt)
muldiv_back Divu = (refl, lit< tt)
muldiv_back Rem = (refl, lit< tt)
muldiv_back Remu = (refl, lit< tt)

-- the operation of its code and its second register
atomic_back : (w : ℕ) (op : AtomicOp) → field w 27 5 ≡ atomic_funct5 op → IsAtomicOperand op (rs2_in w) → atomic_in w ≡ Some op
atomic_back w LoadReserved a b = rw (a, b)
atomic_back w StoreConditional a b = rw (a)
atomic_back w AmoSwap a b = rw (a)
atomic_back w AmoAdd a b = rw (a)
atomic_back w AmoXor a b = rw (a)
atomic_back w AmoAnd a b = rw (a)
atomic_back w AmoOr a b = rw (a)
atomic_back w AmoMin a b = rw (a)
atomic_back w AmoMax a b = rw (a)
atomic_back w AmoMinu a b = rw (a)
atomic_back w AmoMaxu a b = rw (a)

-- a code of five bits, and an operand that is a register
atomic_below : (op : AtomicOp) (rs2 : ℕ) → IsAtomicOperand op rs2 → (atomic_funct5 op < 32) × (rs2 < 32)
atomic_below LoadReserved rs2 h = (lit< tt, search rules)
atomic_below StoreConditional rs2 h = (lit< tt, h)
atomic_below AmoSwap rs2 h = (lit< tt, h)
atomic_below AmoAdd rs2 h = (lit< tt, h)
atomic_below AmoXor rs2 h = (lit< tt, h)
atomic_below AmoAnd rs2 h = (lit< tt, h)
atomic_below AmoOr rs2 h = (lit< tt, h)
atomic_below AmoMin rs2 h = (lit< tt, h)
atomic_below AmoMax rs2 h = (lit< tt, h)
atomic_below AmoMinu rs2 h = (lit< tt, h)
atomic_below AmoMaxu rs2 h = (lit< tt, h)

lui_at : (w : ℕ) → opcode_in w ≡ 0b0110111 → instruction_of w ≡ Some (Lui (rd_in w) (u_immediate w))
unfolding instruction_of
lui_at w a = rw (a)

auipc_at : (w : ℕ) → opcode_in w ≡ 0b0010111 → instruction_of w ≡ Some (Auipc (rd_in w) (u_immediate w))
unfolding instruction_of
auipc_at w a = rw (a)

jal_at : (w : ℕ) → opcode_in w ≡ 0b1101111 → instruction_of w ≡ Some (Jal (rd_in w) (j_immediate w))
unfolding instruction_of
jal_at w a = rw (a)

jalr_at : (w : ℕ) → opcode_in w ≡ 0b1100111 → funct3_in w ≡ 0 → instruction_of w ≡ Some (Jalr (rd_in w) (rs1_in w) (i_immediate w))
unfolding instruction_of
jalr_at w a b = rw (a, b)

branch_at : (w : ℕ) (op : BranchOp) → opcode_in w ≡ 0b1100011 → funct3_in w ≡ branch_funct3 op → instruction_of w ≡ Some (Branch op (rs1_in w) (rs2_in w) (b_immediate w))
unfolding instruction_of
branch_at w op a b = rw (a, b, (branch_back op).0)

load_at : (w : ℕ) (op : LoadOp) → opcode_in w ≡ 0b0000011 → funct3_in w ≡ load_funct3 op → instruction_of w ≡ Some (Load op (rd_in w) (rs1_in w) (i_immediate w))
unfolding instruction_of
load_at w op a b = rw (a, b, (load_back op).0)

store_at : (w : ℕ) (op : StoreOp) → opcode_in w ≡ 0b0100011 → funct3_in w ≡ store_funct3 op → instruction_of w ≡ Some (Store op (rs1_in w) (rs2_in w) (s_immediate w))
unfolding instruction_of
store_at w op a b = rw (a, b, (store_back op).0)

muldiv_at : (w : ℕ) (op : MulDivOp) → opcode_in w ≡ 0b0110011 → funct7_in w ≡ 1 → funct3_in w ≡ muldiv_funct3 op → instruction_of w ≡ Some (MulDiv op (rd_in w) (rs1_in w) (rs2_in w))
unfolding instruction_of
muldiv_at w op a b c = rw (a, b, c, (muldiv_back op).0)

fence_at : (w : ℕ) → opcode_in w ≡ 0b0001111 → funct3_in w ≡ 0 → instruction_of w ≡ Some (Fence (rd_in w) (rs1_in w) (field w 20 12))
unfolding instruction_of
fence_at w a b = rw (a, b)

atomic_at : (w : ℕ) (op : AtomicOp) → opcode_in w ≡ 0b0101111 → funct3_in w ≡ 0b010 → field w 27 5 ≡ atomic_funct5 op → IsAtomicOperand op (rs2_in w) → instruction_of w ≡ Some (Atomic op (rd_in w) (rs1_in w) (rs2_in w) (field w 25 2))
unfolding instruction_of
atomic_at w op a b c d = rw (a, b, atomic_back w op c d)

alu_at : (w : ℕ) (op : AluOp) → opcode_in w ≡ 0b0110011 → funct7_in w ≡ alu_funct7 op → funct3_in w ≡ alu_funct3 op → instruction_of w ≡ Some (Alu op (rd_in w) (rs1_in w) (rs2_in w))
unfolding instruction_of
alu_at w Add a b c = rw (a, b, c)
alu_at w Sub a b c = rw (a, b, c)
alu_at w Sll a b c = rw (a, b, c)
alu_at w Slt a b c = rw (a, b, c)
alu_at w Sltu a b c = rw (a, b, c)
alu_at w Xor a b c = rw (a, b, c)
alu_at w Srl a b c = rw (a, b, c)
alu_at w Sra a b c = rw (a, b, c)
alu_at w Or a b c = rw (a, b, c)
alu_at w And a b c = rw (a, b, c)

-- the operations of the immediate's row whose code is neither of the shifts'
plain_at : (w code : ℕ) (op : AluOp) → opcode_in w ≡ 0b0010011 → funct3_in w ≡ code → alu_with code ≡ Some op → (code == 0b001) ≡ false → (code == 0b101) ≡ false → instruction_of w ≡ Some (AluImm op (rd_in w) (rs1_in w) (i_immediate w))
unfolding instruction_of
plain_at w code op a b c d e = rw (a, b, d, e, c)

sll_at : (w : ℕ) → opcode_in w ≡ 0b0010011 → funct3_in w ≡ 0b001 → funct7_in w ≡ 0 → instruction_of w ≡ Some (AluImm Sll (rd_in w) (rs1_in w) (rs2_in w))
unfolding instruction_of
sll_at w a b c = rw (a, b, c)

srl_at : (w : ℕ) → opcode_in w ≡ 0b0010011 → funct3_in w ≡ 0b101 → funct7_in w ≡ 0 → instruction_of w ≡ Some (AluImm Srl (rd_in w) (rs1_in w) (rs2_in w))
unfolding instruction_of
srl_at w a b c = rw (a, b, c)

sra_at : (w : ℕ) → opcode_in w ≡ 0b0010011 → funct3_in w ≡ 0b101 → funct7_in w ≡ 0b0100000 → instruction_of w ≡ Some (AluImm Sra (rd_in w) (rs1_in w) (rs2_in w))
unfolding instruction_of
sra_at w a b c = rw (a, b, c)

abbrev ReadsBack : Instr → Type 0
ReadsBack i = instruction_of (word_of i) ≡ Some i

same_lui : (rd imm : ℕ) (rd' imm' : ℕ) → rd' ≡ rd → imm' ≡ imm → Some (Lui rd' imm') ≡ Some (Lui rd imm)
same_lui rd imm rd' imm' p0 p1 = cc

lui_read : (rd imm : ℕ) → InRange (Lui rd imm) → ReadsBack (Lui rd imm)
unfolding word_of
lui_read rd imm h = lui_at (word_of (Lui rd imm)) (search rules) ∙ same_lui rd imm _ _ (search rules) (search rules)

same_auipc : (rd imm : ℕ) (rd' imm' : ℕ) → rd' ≡ rd → imm' ≡ imm → Some (Auipc rd' imm') ≡ Some (Auipc rd imm)
same_auipc rd imm rd' imm' p0 p1 = cc

auipc_read : (rd imm : ℕ) → InRange (Auipc rd imm) → ReadsBack (Auipc rd imm)
unfolding word_of
auipc_read rd imm h = auipc_at (word_of (Auipc rd imm)) (search rules) ∙ same_auipc rd imm _ _ (search rules) (search rules)

same_jal : (rd imm : ℕ) (rd' imm' : ℕ) → rd' ≡ rd → imm' ≡ imm → Some (Jal rd' imm') ≡ Some (Jal rd imm)
same_jal rd imm rd' imm' p0 p1 = cc

jal_read : (rd imm : ℕ) → InRange (Jal rd imm) → ReadsBack (Jal rd imm)
unfolding word_of
jal_read rd imm h = jal_at (word_of (Jal rd imm)) (search rules) ∙ same_jal rd imm _ _ (search rules) (search rules)

same_jalr : (rd rs1 imm : ℕ) (rd' rs1' imm' : ℕ) → rd' ≡ rd → rs1' ≡ rs1 → imm' ≡ imm → Some (Jalr rd' rs1' imm') ≡ Some (Jalr rd rs1 imm)
same_jalr rd rs1 imm rd' rs1' imm' p0 p1 p2 = cc

jalr_read : (rd rs1 imm : ℕ) → InRange (Jalr rd rs1 imm) → ReadsBack (Jalr rd rs1 imm)
unfolding word_of
jalr_read rd rs1 imm h = jalr_at (word_of (Jalr rd rs1 imm)) (search rules) (search rules) ∙ same_jalr rd rs1 imm _ _ _ (search rules) (search rules) (search rules)

same_branch : (op : BranchOp) (rs1 rs2 imm : ℕ) (rs1' rs2' imm' : ℕ) → rs1' ≡ rs1 → rs2' ≡ rs2 → imm' ≡ imm → Some (Branch op rs1' rs2' imm') ≡ Some (Branch op rs1 rs2 imm)
same_branch op rs1 rs2 imm rs1' rs2' imm' p0 p1 p2 = cc

branch_read : (op : BranchOp) (rs1 rs2 imm : ℕ) → InRange (Branch op rs1 rs2 imm) → ReadsBack (Branch op rs1 rs2 imm)
unfolding word_of
branch_read op rs1 rs2 imm h = let k = branch_back op in branch_at (word_of (Branch op rs1 rs2 imm)) op (search rules) (search rules) ∙ same_branch op rs1 rs2 imm _ _ _ (search rules) (search rules) (search rules)

same_load : (op : LoadOp) (rd rs1 imm : ℕ) (rd' rs1' imm' : ℕ) → rd' ≡ rd → rs1' ≡ rs1 → imm' ≡ imm → Some (Load op rd' rs1' imm') ≡ Some (Load op rd rs1 imm)
same_load op rd rs1 imm rd' rs1' imm' p0 p1 p2 = cc

load_read : (op : LoadOp) (rd rs1 imm : ℕ) → InRange (Load op rd rs1 imm) → ReadsBack (Load op rd rs1 imm)
unfolding word_of
load_read op rd rs1 imm h = let k = load_back op in load_at (word_of (Load op rd rs1 imm)) op (search rules) (search rules) ∙ same_load op rd rs1 imm _ _ _ (search rules) (search rules) (search rules)

same_store : (op : StoreOp) (rs1 rs2 imm : ℕ) (rs1' rs2' imm' : ℕ) → rs1' ≡ rs1 → rs2' ≡ rs2 → imm' ≡ imm → Some (Store op rs1' rs2' imm') ≡ Some (Store op rs1 rs2 imm)
same_store op rs1 rs2 imm rs1' rs2' imm' p0 p1 p2 = cc

store_read : (op : StoreOp) (rs1 rs2 imm : ℕ) → InRange (Store op rs1 rs2 imm) → ReadsBack (Store op rs1 rs2 imm)
unfolding word_of
store_read op rs1 rs2 imm h = let k = store_back op in store_at (word_of (Store op rs1 rs2 imm)) op (search rules) (search rules) ∙ same_store op rs1 rs2 imm _ _ _ (search rules) (search rules) (search rules)

same_muldiv : (op : MulDivOp) (rd rs1 rs2 : ℕ) (rd' rs1' rs2' : ℕ) → rd' ≡ rd → rs1' ≡ rs1 → rs2' ≡ rs2 → Some (MulDiv op rd' rs1' rs2') ≡ Some (MulDiv op rd rs1 rs2)
same_muldiv op rd rs1 rs2 rd' rs1' rs2' p0 p1 p2 = cc

muldiv_read : (op : MulDivOp) (rd rs1 rs2 : ℕ) → InRange (MulDiv op rd rs1 rs2) → ReadsBack (MulDiv op rd rs1 rs2)
unfolding word_of
muldiv_read op rd rs1 rs2 h = let k = muldiv_back op in muldiv_at (word_of (MulDiv op rd rs1 rs2)) op (search rules) (search rules) (search rules) ∙ same_muldiv op rd rs1 rs2 _ _ _ (search rules) (search rules) (search rules)

alu_below : (op : AluOp) → (alu_funct3 op < 8) × (alu_funct7 op < 128)
alu_below Add = (lit< tt, lit< tt)
alu_below Sub = (lit< tt, lit< tt)
alu_below Sll = (lit< tt, lit< tt)
alu_below Slt = (lit< tt, lit< tt)
alu_below Sltu = (lit< tt, lit< tt)
alu_below Xor = (lit< tt, lit< tt)
alu_below Srl = (lit< tt, lit< tt)
alu_below Sra = (lit< tt, lit< tt)
alu_below Or = (lit< tt, lit< tt)
alu_below And = (lit< tt, lit< tt)

same_alu : (op : AluOp) (rd rs1 rs2 : ℕ) (rd' rs1' rs2' : ℕ) → rd' ≡ rd → rs1' ≡ rs1 → rs2' ≡ rs2 → Some (Alu op rd' rs1' rs2') ≡ Some (Alu op rd rs1 rs2)
same_alu op rd rs1 rs2 rd' rs1' rs2' p0 p1 p2 = cc

alu_read : (op : AluOp) (rd rs1 rs2 : ℕ) → InRange (Alu op rd rs1 rs2) → ReadsBack (Alu op rd rs1 rs2)
unfolding word_of
alu_read op rd rs1 rs2 h = let k = alu_below op in alu_at (word_of (Alu op rd rs1 rs2)) op (search rules) (search rules) (search rules) ∙ same_alu op rd rs1 rs2 _ _ _ (search rules) (search rules) (search rules)

same_fence : (rd rs1 bits : ℕ) (rd' rs1' bits' : ℕ) → rd' ≡ rd → rs1' ≡ rs1 → bits' ≡ bits → Some (Fence rd' rs1' bits') ≡ Some (Fence rd rs1 bits)
same_fence rd rs1 bits rd' rs1' bits' p0 p1 p2 = cc

fence_read : (rd rs1 bits : ℕ) → InRange (Fence rd rs1 bits) → ReadsBack (Fence rd rs1 bits)
unfolding word_of
fence_read rd rs1 bits h = fence_at (word_of (Fence rd rs1 bits)) (search rules) (search rules) ∙ same_fence rd rs1 bits _ _ _ (search rules) (search rules) (search rules)

same_atomic : (op : AtomicOp) (rd rs1 rs2 order : ℕ) (rd' rs1' rs2' order' : ℕ) → rd' ≡ rd → rs1' ≡ rs1 → rs2' ≡ rs2 → order' ≡ order → Some (Atomic op rd' rs1' rs2' order') ≡ Some (Atomic op rd rs1 rs2 order)
same_atomic op rd rs1 rs2 order rd' rs1' rs2' order' p0 p1 p2 p3 = cc

atomic_read : (op : AtomicOp) (rd rs1 rs2 order : ℕ) → InRange (Atomic op rd rs1 rs2 order) → ReadsBack (Atomic op rd rs1 rs2 order)
unfolding word_of
atomic_read op rd rs1 rs2 order h =
    let k = atomic_below op rs2 h.2 in
    let w = word_of (Atomic op rd rs1 rs2 order) in
    let second : rs2_in w ≡ rs2 = search rules in
    atomic_at w op (search rules) (search rules) (search rules) (subst (IsAtomicOperand op) (sym second) h.2) ∙ same_atomic op rd rs1 rs2 order _ _ _ _ (search rules) (search rules) second (search rules)

same_immediate : (op : AluOp) (rd rs1 imm rd' rs1' imm' : ℕ) → rd' ≡ rd → rs1' ≡ rs1 → imm' ≡ imm → Some (AluImm op rd' rs1' imm') ≡ Some (AluImm op rd rs1 imm)
same_immediate op rd rs1 imm rd' rs1' imm' p q r = cc

plain_read : (code : ℕ) (op : AluOp) (rd rs1 imm : ℕ) → IsRegister rd → IsRegister rs1 → IsSigned 12 imm → alu_with code ≡ Some op → code < 8 → (code == 0b001) ≡ false → (code == 0b101) ≡ false → instruction_of (i_word imm rs1 code rd 0b0010011) ≡ Some (AluImm op rd rs1 imm)
plain_read code op rd rs1 imm h k s c l d e =
    plain_at (i_word imm rs1 code rd 0b0010011) code op (search rules) (search rules) c d e ∙ same_immediate op rd rs1 imm _ _ _ (search rules) (search rules) (search rules)

shift_read : (funct7 code amount rs1 rd : ℕ) (op : AluOp) → IsRegister rd → IsRegister rs1 → amount < 32 → code < 8 → funct7 < 128 → ((w : ℕ) → opcode_in w ≡ 0b0010011 → funct3_in w ≡ code → funct7_in w ≡ funct7 → instruction_of w ≡ Some (AluImm op (rd_in w) (rs1_in w) (rs2_in w))) → instruction_of (r_word funct7 amount rs1 code rd 0b0010011) ≡ Some (AluImm op rd rs1 amount)
shift_read funct7 code amount rs1 rd op h k l m n at =
    at (r_word funct7 amount rs1 code rd 0b0010011) (search rules) (search rules) (search rules) ∙ same_immediate op rd rs1 amount _ _ _ (search rules) (search rules) (search rules)

-- an instruction in range is the one that its word has
pub read_back : (i : Instr) → InRange i → instruction_of (word_of i) ≡ Some i
unfolding word_of instruction_of
read_back (Lui rd imm) h = lui_read rd imm h
read_back (Auipc rd imm) h = auipc_read rd imm h
read_back (Jal rd imm) h = jal_read rd imm h
read_back (Jalr rd rs1 imm) h = jalr_read rd rs1 imm h
read_back (Branch op rs1 rs2 imm) h = branch_read op rs1 rs2 imm h
read_back (Load op rd rs1 imm) h = load_read op rd rs1 imm h
read_back (Store op rs1 rs2 imm) h = store_read op rs1 rs2 imm h
read_back (AluImm Sll rd rs1 imm) h = shift_read 0 0b001 imm rs1 rd Sll h.0 h.1 h.2 (lit< tt) (lit< tt) sll_at
read_back (AluImm Srl rd rs1 imm) h = shift_read 0 0b101 imm rs1 rd Srl h.0 h.1 h.2 (lit< tt) (lit< tt) srl_at
read_back (AluImm Sra rd rs1 imm) h = shift_read 0b0100000 0b101 imm rs1 rd Sra h.0 h.1 h.2 (lit< tt) (lit< tt) sra_at
read_back (AluImm Sub rd rs1 imm) h = absurd h.2
read_back (AluImm Add rd rs1 imm) h = plain_read 0b000 Add rd rs1 imm h.0 h.1 h.2 refl (lit< tt) refl refl
read_back (AluImm Slt rd rs1 imm) h = plain_read 0b010 Slt rd rs1 imm h.0 h.1 h.2 refl (lit< tt) refl refl
read_back (AluImm Sltu rd rs1 imm) h = plain_read 0b011 Sltu rd rs1 imm h.0 h.1 h.2 refl (lit< tt) refl refl
read_back (AluImm Xor rd rs1 imm) h = plain_read 0b100 Xor rd rs1 imm h.0 h.1 h.2 refl (lit< tt) refl refl
read_back (AluImm Or rd rs1 imm) h = plain_read 0b110 Or rd rs1 imm h.0 h.1 h.2 refl (lit< tt) refl refl
read_back (AluImm And rd rs1 imm) h = plain_read 0b111 And rd rs1 imm h.0 h.1 h.2 refl (lit< tt) refl refl
read_back (Alu op rd rs1 rs2) h = alu_read op rd rs1 rs2 h
read_back (MulDiv op rd rs1 rs2) h = muldiv_read op rd rs1 rs2 h
read_back (Fence rd rs1 bits) h = fence_read rd rs1 bits h
read_back (Atomic op rd rs1 rs2 order) h = atomic_read op rd rs1 rs2 order h
read_back Ecall h = search rules
read_back Ebreak h = search rules
