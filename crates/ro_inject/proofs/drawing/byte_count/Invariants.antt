use Rattle.std.proofs.Common.{◌≡◌, ◌+◌, length, drop}
use Rattle.ro_image.specs.Image.{addresses_in}
use Rattle.ro_inject.proofs.drawing.byte_count.Given as goal

-- the bytes so far, and those of the ranges that are left
abbrev pub invariant-loop-range : goal.invariant-loop-range
invariant-loop-range l = l.count + length (addresses_in (drop l.range-index l.ranges)) ≡ length (addresses_in l.ranges)
