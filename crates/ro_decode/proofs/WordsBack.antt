-- The instruction that is read from a word is in range, and its word is that word.
use Rattle.std.specs.Prelude.{◌≡◌, ℕ, ◌^◌, ◌<◌, Bool, true, false, Option, Some, None, cond, ◌==◌}
use Rattle.std.specs.Option.{option_map}
use Rattle.std.proofs.Common.{rules, ◌∙◌, refl, subst}
use Rattle.std.proofs.lemmas.Bool.{eqb-true}
use Rattle.ro_decode.specs.declared.AluOp.{AluOp}
use Rattle.ro_decode.specs.declared.AluOp.TheVariants.{Add, Sub, Sll, Slt, Sltu, Xor, Srl, Sra, Or, And}
use Rattle.ro_decode.specs.declared.MulDivOp.{MulDivOp}
use Rattle.ro_decode.specs.declared.LoadOp.{LoadOp}
use Rattle.ro_decode.specs.declared.StoreOp.{StoreOp}
use Rattle.ro_decode.specs.declared.BranchOp.{BranchOp}
use Rattle.ro_decode.specs.declared.AtomicOp.{AtomicOp}
use Rattle.ro_decode.specs.declared.AtomicOp.TheVariants.{LoadReserved, StoreConditional, AmoSwap, AmoAdd, AmoXor, AmoAnd, AmoOr, AmoMin, AmoMax, AmoMinu, AmoMaxu}
use Rattle.ro_decode.specs.declared.Instr.{Instr}
use Rattle.ro_decode.specs.declared.Instr.TheVariants.{Lui, Auipc, Jal, Jalr, Branch, Load, Store, AluImm, Alu, MulDiv, Fence, Atomic, Ecall, Ebreak}
use Rattle.ro_decode.specs.Fields.{opcode_in, rd_in, funct3_in, rs1_in, rs2_in, funct7_in, i_immediate, s_immediate, b_immediate, u_immediate, j_immediate, field}
use Rattle.ro_decode.specs.Table.{InRange, IsSigned, IsAluImmediate, i_word, alu_imm_word, word_of, instruction_of, load_with, store_with, branch_with, muldiv_with, alu_with, other_alu_with, register_row, immediate_row, atomic_with, atomic_in, atomic_row, IsAtomicOperand, load_funct3, store_funct3, branch_funct3, muldiv_funct3, alu_funct3, alu_funct7, atomic_funct5}

-- what is read is in range, and its word is this one
pub data IsWritten (w : ℕ) : Option Instr → Type 0 where
  nothing : IsWritten w None
  found : {i : Instr} → InRange i → word_of i ≡ w → IsWritten w (Some i)

by_test : (w : ℕ) (b : Bool) (x y : Option Instr) → (b ≡ true → IsWritten w x) → (b ≡ false → IsWritten w y) → IsWritten w (cond b x y)
by_test w true x y h k = h refl
by_test w false x y h k = k refl

-- by a code
by_number : (w m n : ℕ) (x y : Option Instr) → (m ≡ n → IsWritten w x) → ((m == n) ≡ false → IsWritten w y) → IsWritten w (cond (m == n) x y)
by_number w m n x y h k = by_test w (m == n) x y (λ e. h (eqb-true m n e)) k

by_option : {X : Type 0} (w : ℕ) (f : X → Instr) (o : Option X) → ((x : X) → o ≡ Some x → IsWritten w (Some (f x))) → IsWritten w (option_map f o)
by_option w f None h = nothing
by_option w f (Some x) h = h x refl

load_code : (code : ℕ) (op : LoadOp) → load_with code ≡ Some op → load_funct3 op ≡ code
load_code code op e = search rules

store_code : (code : ℕ) (op : StoreOp) → store_with code ≡ Some op → store_funct3 op ≡ code
store_code code op e = search rules

branch_code : (code : ℕ) (op : BranchOp) → branch_with code ≡ Some op → branch_funct3 op ≡ code
branch_code code op e = search rules

muldiv_code : (code : ℕ) (op : MulDivOp) → muldiv_with code ≡ Some op → muldiv_funct3 op ≡ code
muldiv_code code op e = search rules

alu_code : (code : ℕ) (op : AluOp) → alu_with code ≡ Some op → (alu_funct3 op ≡ code) × (alu_funct7 op ≡ 0)
alu_code code op e = search rules

other_alu_code : (code : ℕ) (op : AluOp) → other_alu_with code ≡ Some op → (alu_funct3 op ≡ code) × (alu_funct7 op ≡ 0b0100000)
other_alu_code code op e = search rules

-- all but LR have a register for their operand
atomic_code : (code : ℕ) (op : AtomicOp) → atomic_with code ≡ Some op → (atomic_funct5 op ≡ code) × ((r : ℕ) → r < 32 → IsAtomicOperand op r)
atomic_code code LoadReserved e = absurd (search rules)
atomic_code code StoreConditional e = (search rules, λ r h. h)
atomic_code code AmoSwap e = (search rules, λ r h. h)
atomic_code code AmoAdd e = (search rules, λ r h. h)
atomic_code code AmoXor e = (search rules, λ r h. h)
atomic_code code AmoAnd e = (search rules, λ r h. h)
atomic_code code AmoOr e = (search rules, λ r h. h)
atomic_code code AmoMin e = (search rules, λ r h. h)
atomic_code code AmoMax e = (search rules, λ r h. h)
atomic_code code AmoMinu e = (search rules, λ r h. h)
atomic_code code AmoMaxu e = (search rules, λ r h. h)

reserved_operation : (w : ℕ) (op : AtomicOp) → field w 27 5 ≡ 0b00010 → cond (rs2_in w == 0) (Some LoadReserved) None ≡ Some op → (atomic_funct5 op ≡ field w 27 5) × IsAtomicOperand op (rs2_in w)
reserved_operation w op f e = search rules

other_operation : (w : ℕ) (op : AtomicOp) → atomic_with (field w 27 5) ≡ Some op → (atomic_funct5 op ≡ field w 27 5) × IsAtomicOperand op (rs2_in w)
other_operation w op e = let k = atomic_code (field w 27 5) op e in (k.0, k.1 (rs2_in w) (search rules))

-- the code and the operand of the operation that is read
atomic_operation_of : (w : ℕ) (op : AtomicOp) (b : Bool) → (b ≡ true → field w 27 5 ≡ 0b00010) → cond b (cond (rs2_in w == 0) (Some LoadReserved) None) (atomic_with (field w 27 5)) ≡ Some op → (atomic_funct5 op ≡ field w 27 5) × IsAtomicOperand op (rs2_in w)
atomic_operation_of w op true h e = reserved_operation w op (h refl) e
atomic_operation_of w op false h e = other_operation w op e

lui_row : (w : ℕ) → w < 2 ^ 32 → opcode_in w ≡ 0b0110111 → IsWritten w (Some (Lui (rd_in w) (u_immediate w)))
unfolding word_of
lui_row w l e = found (search rules) (search rules)

auipc_row : (w : ℕ) → w < 2 ^ 32 → opcode_in w ≡ 0b0010111 → IsWritten w (Some (Auipc (rd_in w) (u_immediate w)))
unfolding word_of
auipc_row w l e = found (search rules) (search rules)

jal_row : (w : ℕ) → w < 2 ^ 32 → opcode_in w ≡ 0b1101111 → IsWritten w (Some (Jal (rd_in w) (j_immediate w)))
unfolding word_of
jal_row w l e = found (search rules) (search rules)

jalr_row : (w : ℕ) → w < 2 ^ 32 → opcode_in w ≡ 0b1100111 → funct3_in w ≡ 0 → IsWritten w (Some (Jalr (rd_in w) (rs1_in w) (i_immediate w)))
unfolding word_of
jalr_row w l e f = found (search rules) (search rules)

branch_row : (w : ℕ) → w < 2 ^ 32 → opcode_in w ≡ 0b1100011 → IsWritten w (option_map (λ op. Branch op (rs1_in w) (rs2_in w) (b_immediate w)) (branch_with (funct3_in w)))
unfolding word_of
branch_row w l e = by_option w _ (branch_with (funct3_in w)) (λ op c. let k = branch_code (funct3_in w) op c in found (search rules) (search rules))

load_row : (w : ℕ) → w < 2 ^ 32 → opcode_in w ≡ 0b0000011 → IsWritten w (option_map (λ op. Load op (rd_in w) (rs1_in w) (i_immediate w)) (load_with (funct3_in w)))
unfolding word_of
load_row w l e = by_option w _ (load_with (funct3_in w)) (λ op c. let k = load_code (funct3_in w) op c in found (search rules) (search rules))

store_row : (w : ℕ) → w < 2 ^ 32 → opcode_in w ≡ 0b0100011 → IsWritten w (option_map (λ op. Store op (rs1_in w) (rs2_in w) (s_immediate w)) (store_with (funct3_in w)))
unfolding word_of
store_row w l e = by_option w _ (store_with (funct3_in w)) (λ op c. let k = store_code (funct3_in w) op c in found (search rules) (search rules))

alu_row : (w : ℕ) → w < 2 ^ 32 → opcode_in w ≡ 0b0110011 → funct7_in w ≡ 0 → IsWritten w (option_map (λ op. Alu op (rd_in w) (rs1_in w) (rs2_in w)) (alu_with (funct3_in w)))
unfolding word_of
alu_row w l e g = by_option w _ (alu_with (funct3_in w)) (λ op c. let k = alu_code (funct3_in w) op c in found (search rules) (search rules))

other_alu_row : (w : ℕ) → w < 2 ^ 32 → opcode_in w ≡ 0b0110011 → funct7_in w ≡ 0b0100000 → IsWritten w (option_map (λ op. Alu op (rd_in w) (rs1_in w) (rs2_in w)) (other_alu_with (funct3_in w)))
unfolding word_of
other_alu_row w l e g = by_option w _ (other_alu_with (funct3_in w)) (λ op c. let k = other_alu_code (funct3_in w) op c in found (search rules) (search rules))

muldiv_row : (w : ℕ) → w < 2 ^ 32 → opcode_in w ≡ 0b0110011 → funct7_in w ≡ 1 → IsWritten w (option_map (λ op. MulDiv op (rd_in w) (rs1_in w) (rs2_in w)) (muldiv_with (funct3_in w)))
unfolding word_of
muldiv_row w l e g = by_option w _ (muldiv_with (funct3_in w)) (λ op c. let k = muldiv_code (funct3_in w) op c in found (search rules) (search rules))

register_rows : (w : ℕ) → w < 2 ^ 32 → opcode_in w ≡ 0b0110011 → IsWritten w (register_row w)
register_rows w l e =
    by_number w _ _ _ _ (alu_row w l e) (λ _.
    by_number w _ _ _ _ (other_alu_row w l e) (λ _.
    by_number w _ _ _ _ (muldiv_row w l e) (λ _. nothing)))

sll_row : (w : ℕ) → w < 2 ^ 32 → opcode_in w ≡ 0b0010011 → funct3_in w ≡ 0b001 → funct7_in w ≡ 0 → IsWritten w (Some (AluImm Sll (rd_in w) (rs1_in w) (rs2_in w)))
unfolding word_of
sll_row w l e f g = found (search rules) (search rules)

srl_row : (w : ℕ) → w < 2 ^ 32 → opcode_in w ≡ 0b0010011 → funct3_in w ≡ 0b101 → funct7_in w ≡ 0 → IsWritten w (Some (AluImm Srl (rd_in w) (rs1_in w) (rs2_in w)))
unfolding word_of
srl_row w l e f g = found (search rules) (search rules)

sra_row : (w : ℕ) → w < 2 ^ 32 → opcode_in w ≡ 0b0010011 → funct3_in w ≡ 0b101 → funct7_in w ≡ 0b0100000 → IsWritten w (Some (AluImm Sra (rd_in w) (rs1_in w) (rs2_in w)))
unfolding word_of
sra_row w l e f g = found (search rules) (search rules)

-- an operation that takes a signed immediate: its word, and what has to hold of the immediate
pub record IsPlain (op : AluOp) : Type 0 where
  pub word : (rd rs1 imm : ℕ) → alu_imm_word op rd rs1 imm ≡ i_word imm rs1 (alu_funct3 op) rd 0b0010011
  pub range : (imm : ℕ) → IsSigned 12 imm → IsAluImmediate op imm

plain_op : (code : ℕ) (op : AluOp) → alu_with code ≡ Some op → (code == 0b001) ≡ false → (code == 0b101) ≡ false → IsPlain op
plain_op code Add e f g = record { word = λ _ _ _. refl; range = λ _ h. h }
plain_op code Slt e f g = record { word = λ _ _ _. refl; range = λ _ h. h }
plain_op code Sltu e f g = record { word = λ _ _ _. refl; range = λ _ h. h }
plain_op code Xor e f g = record { word = λ _ _ _. refl; range = λ _ h. h }
plain_op code Or e f g = record { word = λ _ _ _. refl; range = λ _ h. h }
plain_op code And e f g = record { word = λ _ _ _. refl; range = λ _ h. h }
plain_op code Sub e f g = let k = alu_code code Sub e in absurd (search rules)
plain_op code Sll e f g = let k = alu_code code Sll e in absurd (search rules)
plain_op code Srl e f g = let k = alu_code code Srl e in absurd (search rules)
plain_op code Sra e f g = let k = alu_code code Sra e in absurd (search rules)

signed_12 : (w : ℕ) → IsSigned 12 (i_immediate w)
signed_12 w = search rules

plain_word : (w code : ℕ) → w < 2 ^ 32 → opcode_in w ≡ 0b0010011 → code ≡ funct3_in w → i_word (i_immediate w) (rs1_in w) code (rd_in w) 0b0010011 ≡ w
plain_word w code l e f = search rules

plain_row : (w : ℕ) → w < 2 ^ 32 → opcode_in w ≡ 0b0010011 → (funct3_in w == 0b001) ≡ false → (funct3_in w == 0b101) ≡ false → IsWritten w (option_map (λ op. AluImm op (rd_in w) (rs1_in w) (i_immediate w)) (alu_with (funct3_in w)))
unfolding word_of
plain_row w l e f g = by_option w _ (alu_with (funct3_in w)) (λ op c.
    let plain = plain_op (funct3_in w) op c f g in
    found (search rules, search rules, plain.range (i_immediate w) (signed_12 w)) (plain.word _ _ _ ∙ plain_word w (alu_funct3 op) l e (alu_code (funct3_in w) op c).0))

immediate_rows : (w : ℕ) → w < 2 ^ 32 → opcode_in w ≡ 0b0010011 → IsWritten w (immediate_row w)
immediate_rows w l e =
    by_number w _ _ _ _ (λ f. by_number w _ _ _ _ (λ g. sll_row w l e f g) (λ _. nothing)) (λ not_left.
    by_number w _ _ _ _
    (λ f. by_number w _ _ _ _ (λ g. srl_row w l e f g) (λ _. by_number w _ _ _ _ (λ g. sra_row w l e f g) (λ _. nothing)))
    (λ not_right. plain_row w l e not_left not_right))

fence_row : (w : ℕ) → w < 2 ^ 32 → opcode_in w ≡ 0b0001111 → funct3_in w ≡ 0 → IsWritten w (Some (Fence (rd_in w) (rs1_in w) (field w 20 12)))
unfolding word_of
fence_row w l e f = found (search rules) (search rules)

atomic_found : (w : ℕ) (op : AtomicOp) → w < 2 ^ 32 → opcode_in w ≡ 0b0101111 → funct3_in w ≡ 0b010 → atomic_funct5 op ≡ field w 27 5 → IsAtomicOperand op (rs2_in w) → IsWritten w (Some (Atomic op (rd_in w) (rs1_in w) (rs2_in w) (field w 25 2)))
unfolding word_of
atomic_found w op l e f code operand = found (search rules, search rules, operand, search rules) (search rules)

atomic_rows : (w : ℕ) → w < 2 ^ 32 → opcode_in w ≡ 0b0101111 → funct3_in w ≡ 0b010 → IsWritten w (atomic_row w)
atomic_rows w l e f = by_option w _ (atomic_in w) (λ op c.
    let k = atomic_operation_of w op (field w 27 5 == 0b00010) (eqb-true _ _) c in
    atomic_found w op l e f k.0 k.1)

ecall_row : (w : ℕ) → w ≡ 0x00000073 → IsWritten w (Some Ecall)
unfolding word_of
ecall_row w e = found tt (search rules)

ebreak_row : (w : ℕ) → w ≡ 0x00100073 → IsWritten w (Some Ebreak)
unfolding word_of
ebreak_row w e = found tt (search rules)

rows : (w : ℕ) → w < 2 ^ 32 → IsWritten w (instruction_of w)
unfolding instruction_of
rows w l =
    by_number w _ _ _ _ (lui_row w l) (λ _.
    by_number w _ _ _ _ (auipc_row w l) (λ _.
    by_number w _ _ _ _ (jal_row w l) (λ _.
    by_number w _ _ _ _ (λ e. by_number w _ _ _ _ (jalr_row w l e) (λ _. nothing)) (λ _.
    by_number w _ _ _ _ (branch_row w l) (λ _.
    by_number w _ _ _ _ (load_row w l) (λ _.
    by_number w _ _ _ _ (store_row w l) (λ _.
    by_number w _ _ _ _ (immediate_rows w l) (λ _.
    by_number w _ _ _ _ (register_rows w l) (λ _.
    by_number w _ _ _ _ (λ e. by_number w _ _ _ _ (fence_row w l e) (λ _. nothing)) (λ _.
    by_number w _ _ _ _ (λ e. by_number w _ _ _ _ (atomic_rows w l e) (λ _. nothing)) (λ _.
    by_number w _ _ _ _ (ecall_row w) (λ _.
    by_number w _ _ _ _ (ebreak_row w) (λ _. nothing)))))))))))))

of_found : (w : ℕ) (o : Option Instr) (i : Instr) → IsWritten w o → o ≡ Some i → InRange i × (word_of i ≡ w)
of_found w None i nothing e = absurd (let f : None ≡ Some i = e in cc)
of_found w (Some j) i (found r h) e = let same : j ≡ i = cc in (subst InRange same r, subst (λ (k : Instr). word_of k ≡ w) same h)

-- the instruction of a word is in range, and its word is that word
pub written_back : (w : ℕ) (i : Instr) → w < 2 ^ 32 → instruction_of w ≡ Some i → InRange i × (word_of i ≡ w)
written_back w i l e = of_found w (instruction_of w) i (rows w l) e
