use Rattle.std.proofs.Common.{◌≡◌, ◌-◌, ◌++◌, replicate}
use Rattle.ro_make.proofs.names.push_zeros.Given as goal

-- the bytes so far, and the zeros that are left
abbrev pub invariant-loop : goal.invariant-loop
invariant-loop l = l.file.items ++ replicate (l.count - l.counter) 0 ≡ l.initial.file.items ++ replicate l.count 0
