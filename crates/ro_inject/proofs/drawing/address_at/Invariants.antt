use Rattle.std.proofs.Common.{◌≡◌, ◌<◌, length, drop, get_or}
use Rattle.ro_image.specs.Image.{addresses_in}
use Rattle.ro_inject.proofs.drawing.address_at.Given as goal

-- the byte is that of the number that is left, among the ranges that are left
abbrev pub invariant-loop-range : goal.invariant-loop-range
invariant-loop-range l = record {
  within : l.place < length (addresses_in (drop l.range-index l.ranges));
  same : get_or (addresses_in (drop l.range-index l.ranges)) l.place 0 ≡ get_or (addresses_in l.ranges) l.number 0;
}
