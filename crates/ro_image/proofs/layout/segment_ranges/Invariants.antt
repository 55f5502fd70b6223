use Rattle.std.proofs.Common.{◌≡◌, ◌++◌, drop, map}
use Rattle.ro_image.specs.Executable.{range_of}
use Rattle.ro_image.proofs.layout.segment_ranges.Given as goal

-- the ranges so far, and those of the segments that are left
abbrev pub invariant-loop-segment : goal.invariant-loop-segment
invariant-loop-segment l = l.ranges.items ++ map range_of (drop l.segment-index l.segments) ≡ map range_of l.segments
