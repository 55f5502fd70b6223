use Rattle.std.proofs.Common.{arith, ◌≡◌, ◌+◌, ◌-◌, ◌∙◌, ap, drop, length}
use Rattle.ro_image.specs.Image.{memory_of, holds_file_byte}
use Rattle.ro_image.specs.Pieces.{pieces_in}
use Rattle.ro_replica.proofs.Starts.{memory_more, backed_more, no_pieces, empty_memory, empty_backing, low_at}
use Rattle.ro_replica.proofs.opening.pages_of.Goals as goal

pub loop-i-init : goal.loop-i-init
loop-i-init c =
    let none = no_pieces c.args.pieces.now (length c.args.pieces.now) (omega arith) in
    record { bytes = empty_memory _ _ c.in_ok-pages.ensures.pages none; backed = empty_backing _ _ c.in_ok-pages.ensures.pages none }

pub put_piece-requires : goal.put_piece-requires
put_piece-requires c = low_at c.args.pieces.now (c.loop-i.i - 1) c.index-pieces-i.result c.index-pieces-i.result (omega arith) c.index-pieces-i.is c.requires

pub loop-i-preserved : goal.loop-i-preserved
loop-i-preserved c =
    let step : c.loop-i.i ≡ c.loop-i.i - 1 + 1 = omega arith in
    record {
      bytes = memory_more c.args.pieces.now (c.loop-i.i - 1) c.index-pieces-i.result c.index-pieces-i.result _ _ (omega arith) c.index-pieces-i.is (c.loop-i.invariant.bytes ∙ ap (λ k. memory_of (drop k (pieces_in c.args.pieces.now))) step) c.in_ok-put_piece.ensures.bytes;
      backed = backed_more c.args.pieces.now (c.loop-i.i - 1) c.index-pieces-i.result c.index-pieces-i.result _ _ (omega arith) c.index-pieces-i.is (c.loop-i.invariant.backed ∙ ap (λ k. holds_file_byte (drop k (pieces_in c.args.pieces.now))) step) c.in_ok-put_piece.ensures.backed;
    }
