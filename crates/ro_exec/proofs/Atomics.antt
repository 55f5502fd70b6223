-- The operand of an atomic instruction.
use Rattle.std.specs.Prelude.{ℕ, ◌<◌}
use Rattle.std.proofs.Common.{arith}
use Rattle.ro_decode.specs.declared.AtomicOp.{AtomicOp}
use Rattle.ro_decode.specs.declared.AtomicOp.TheVariants.{LoadReserved, StoreConditional, AmoSwap, AmoAdd, AmoXor, AmoAnd, AmoOr, AmoMin, AmoMax, AmoMinu, AmoMaxu}
use Rattle.ro_decode.specs.Table.{IsAtomicOperand}

-- it is a register's number
pub operand_below : (op : AtomicOp) (rs2 : ℕ) → IsAtomicOperand op rs2 → rs2 < 32
operand_below LoadReserved rs2 h = omega (arith, h)
operand_below StoreConditional rs2 h = h
operand_below AmoSwap rs2 h = h
operand_below AmoAdd rs2 h = h
operand_below AmoXor rs2 h = h
operand_below AmoAnd rs2 h = h
operand_below AmoOr rs2 h = h
operand_below AmoMin rs2 h = h
operand_below AmoMax rs2 h = h
operand_below AmoMinu rs2 h = h
operand_below AmoMaxu rs2 h = h
