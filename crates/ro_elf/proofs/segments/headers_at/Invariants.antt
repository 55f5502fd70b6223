use Rattle.std.proofs.Common.{◌≡◌, ◌+◌, ◌-◌, ◌*◌, ◌++◌, length}
use Rattle.ro_elf.specs.Segments.{headers_from}
use Rattle.ro_elf.proofs.segments.headers_at.Given as goal

-- the headers so far, and those that are left
abbrev pub invariant-loop-i : goal.invariant-loop-i
invariant-loop-i l = record {
  count : length l.headers.items ≡ l.i;
  all : l.headers.items ++ headers_from l.bytes (l.offset + 32 * l.i) (l.count - l.i) ≡ headers_from l.bytes l.offset l.count;
}
