use Rattle.std.proofs.Common.{◌≡◌, ◌≤◌, max, drop}
use Rattle.std.specs.Prelude.{fold}
use Rattle.ro_elf.specs.Segments.{end_of}
use Rattle.ro_image.specs.Executable.{top_of}
use Rattle.ro_image.proofs.layout.highest_end.Given as goal

-- the end so far, which those of the segments that are left may raise
abbrev pub invariant-loop-segment : goal.invariant-loop-segment
invariant-loop-segment l = record {
  low : l.top ≤ 0x40000000;
  all : fold (λ top segment. max top (end_of segment)) l.top (drop l.segment-index l.segments) ≡ top_of l.segments;
}
