use Rattle.std.proofs.Common.{◌≡◌, ℕ, ◌≤◌, nat_lt, take}
use Rattle.ro_sym.specs.Symbols.{is_ended}
use Rattle.ro_sym.proofs.symbols.ended_size.Given as goal

-- what is ended of the bytes so far
abbrev pub invariant-loop-i : goal.invariant-loop-i
invariant-loop-i l = record {
  low : l.size ≤ l.i;
  ended : (place : ℕ) → is_ended (take l.i l.strings) place ≡ nat_lt place l.size;
}
