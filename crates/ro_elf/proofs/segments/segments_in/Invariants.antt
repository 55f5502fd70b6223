use Rattle.std.proofs.Common.{◌≡◌, ◌≤◌, ◌++◌, drop, length}
use Rattle.ro_elf.specs.Segments.{segments_of}
use Rattle.ro_elf.proofs.segments.segments_in.Given as goal

-- the segments so far, and those of the headers that are left
abbrev pub invariant-loop-header : goal.invariant-loop-header
invariant-loop-header l = record {
  few : length l.segments.items ≤ l.header-index;
  all : l.segments.items ++ segments_of (drop l.header-index l.headers) ≡ segments_of l.headers;
}
