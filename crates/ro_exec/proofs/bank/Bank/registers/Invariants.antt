use Rattle.std.proofs.Common.{◌≡◌, ◌<◌, ℕ, length, slice_index}
use Rattle.ro_exec.proofs.bank.Bank.registers.Given as goal

abbrev pub invariant-loop-i : goal.invariant-loop-i
invariant-loop-i l = record {
  long : length l.registers ≡ 31;
  read : (k : ℕ) → k < l.i → slice_index l.registers k ≡ slice_index l.self k;
}
