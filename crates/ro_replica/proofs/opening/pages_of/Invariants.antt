use Rattle.std.proofs.Common.{◌≡◌, drop}
use Rattle.ro_pages.specs.Held.{memory_of as memory_in, has_page}
use Rattle.ro_image.specs.Image.{memory_of, holds_file_byte}
use Rattle.ro_image.specs.Pieces.{pieces_in}
use Rattle.ro_replica.proofs.opening.pages_of.Given as goal

abbrev pub invariant-loop-i : goal.invariant-loop-i
invariant-loop-i l = record {
  bytes : memory_in l.pages.pages ≡ memory_of (drop l.i (pieces_in l.pieces));
  backed : has_page l.pages.pages ≡ holds_file_byte (drop l.i (pieces_in l.pieces));
}
