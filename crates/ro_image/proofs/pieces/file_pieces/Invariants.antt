use Rattle.std.proofs.Common.{◌≡◌, ◌++◌, drop, map}
use Rattle.ro_image.specs.Pieces.{pieces_in}
use Rattle.ro_image.specs.Executable.{piece_in}
use Rattle.ro_image.proofs.pieces.file_pieces.Given as goal

-- the pieces so far, and those of the segments that are left
abbrev pub invariant-loop-segment : goal.invariant-loop-segment
invariant-loop-segment l = pieces_in l.pieces.items ++ map (piece_in l.bytes) (drop l.segment-index l.segments) ≡ map (piece_in l.bytes) l.segments
