use Rattle.std.proofs.Common.{List, ap, ◌∙◌, map, length}
use Rattle.ro_elf.specs.declared.segments.Segment.{Segment}
use Rattle.ro_image.specs.Image.{ranges_with}
use Rattle.ro_image.specs.Executable.{piece_in, range_of, heap_over}
use Rattle.ro_image.proofs.Opening.{image_from_is, image_of_is, low_pieces}
use Rattle.ro_image.proofs.Bounded.{ranges_bounded}
use Rattle.ro_image.proofs.executable.read_executable.Goals as goal

pub returns-clause-read : goal.returns-clause-read
returns-clause-read c =
    let bytes = c.args.bytes.now in
    let elf = c.in_ok-elf.elf in
    let heap = c.heap_start-heap.result in
    let pieces_are = c.in_ok-pieces.ensures ∙ ap (map (piece_in bytes)) c.segments-2.ensures in
    let ranges_are = c.in_ok-ranges.ensures ∙ ap (λ (ss : List Segment). ranges_with (map range_of ss) heap) c.segments-3.ensures in
    let heap_is = c.heap_start-heap.ensures.start ∙ ap heap_over c.segments.ensures in
    image_of_is bytes elf c.in_ok-calls.calls _ c.in_ok-elf.ensures.read c.in_ok-calls.ensures.found
    (image_from_is bytes elf c.in_ok-calls.calls _ _ c.entry.result heap pieces_are ranges_are heap_is c.entry.ensures)

pub invariant_of-result : goal.invariant_of-result
invariant_of-result c =
    let heap = c.heap_start-heap.result in
    let ranges_are = c.in_ok-ranges.ensures ∙ ap (λ (ss : List Segment). ranges_with (map range_of ss) heap) c.segments-3.ensures in (
      low_pieces c.args.bytes.now c.in_ok-elf.elf.segments _ (c.in_ok-pieces.ensures ∙ ap (map (piece_in c.args.bytes.now)) c.segments-2.ensures) c.in_ok-elf.ensures.loaded,
      ranges_bounded (length c.args.bytes.now) c.in_ok-elf.elf.segments _ heap c.in_ok-elf.ensures.loaded c.in_ok-elf.ensures.some c.in_ok-elf.ensures.few ranges_are,
    )
