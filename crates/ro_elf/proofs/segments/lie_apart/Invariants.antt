use Rattle.std.proofs.Common.{◌≡◌, drop}
use Rattle.ro_elf.specs.Segments.{are_apart}
use Rattle.ro_elf.proofs.segments.lie_apart.Given as goal

-- whether all are apart is left to the segments that are left
abbrev pub invariant-loop-i : goal.invariant-loop-i
invariant-loop-i l = are_apart (drop l.i l.segments) ≡ are_apart l.segments
