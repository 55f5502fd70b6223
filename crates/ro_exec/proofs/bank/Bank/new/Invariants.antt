use Rattle.std.proofs.Common.{◌≡◌, ◌+◌, ◌<◌, ℕ, length, slice_index}
use Rattle.ro_exec.proofs.bank.Bank.new.Given as goal

abbrev pub invariant-loop-i : goal.invariant-loop-i
invariant-loop-i l = record {
  long : length l.values ≡ 32;
  zero : slice_index l.values 0 ≡ 0;
  read : (k : ℕ) → k < l.i → slice_index l.values (k + 1) ≡ slice_index l.registers k;
}
