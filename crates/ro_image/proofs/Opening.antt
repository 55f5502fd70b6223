-- The image of a file from its headers and calls.
use Rattle.std.proofs.Common.{◌≡◌, ℕ, ◌+◌, ◌-◌, List, Ok, length, drop, map, sym, ap, ◌∙◌, arith}
use Rattle.std.specs.List.{All}
use Rattle.std.proofs.lemmas.List.{length-take}
use Rattle.std.proofs.lemmas.List.Elements.{All-same, All-map, All-weaker}
use Rattle.ro_elf.specs.Elf.{Elf, IsLoaded, elf_of}
use Rattle.ro_elf.specs.declared.segments.Segment.{Segment}
use Rattle.ro_event.specs.declared.table.CallTable.{CallTable}
use Rattle.ro_region.specs.declared.Range.{Range}
use Rattle.ro_sym.specs.Calls.{calls_of}
use Rattle.ro_image.specs.Image.{Piece, Image, LiesLow, ranges_with}
use Rattle.ro_image.specs.Executable.{table_of, piece_in, range_of, heap_over, image_from, image_of}

-- the parts of an image
pub image_from_is : (bytes : List ℕ) (elf : Elf) (calls : CallTable) (pieces : List Piece) (ranges : List Range) (entry heap : ℕ)
    → pieces ≡ map (piece_in bytes) elf.segments → ranges ≡ ranges_with (map range_of elf.segments) heap → heap ≡ heap_over elf.segments → entry ≡ elf.entry
    → ◌≡◌ {A = Image} (record { pieces = pieces; ranges = ranges; calls = calls; entry = entry; heap = heap }) (image_from bytes elf calls)
unfolding image_from
image_from_is bytes elf calls pieces ranges entry heap pieces_are ranges_are heap_is entry_is =
    let ranges_too : ranges ≡ ranges_with (map range_of elf.segments) (heap_over elf.segments) = ranges_are ∙ ap (λ (h : ℕ). ranges_with (map range_of elf.segments) h) heap_is in
    cc

-- the headers and calls are those of the file
pub image_of_is : (bytes : List ℕ) (elf : Elf) (calls : CallTable) (image : Image) → elf ≡ elf_of bytes → calls_of bytes elf.sections ≡ Ok calls
    → image ≡ image_from bytes elf calls → image ≡ image_of bytes
image_of_is bytes elf calls image elf_is calls_are is =
    let same : calls ≡ table_of (calls_of bytes (elf_of bytes).sections) = ap table_of (sym calls_are) ∙ ap (λ (e : Elf). table_of (calls_of bytes e.sections)) elf_is in
    is ∙ ap (λ (e : Elf). image_from bytes e calls) elf_is ∙ ap (λ (t : CallTable). image_from bytes (elf_of bytes) t) same

-- the bytes that a file has of a segment end where the segment does, or before
low_piece : (bytes : List ℕ) (segment : Segment) → IsLoaded (length bytes) segment → LiesLow (piece_in bytes segment)
low_piece bytes segment h =
    let long = length-take (segment.offset + segment.file_size - segment.offset) (drop segment.offset bytes) in
    omega (arith, long, h.in_memory, h.below)

pub low_pieces : (bytes : List ℕ) (segments : List Segment) (pieces : List Piece) → pieces ≡ map (piece_in bytes) segments → All (IsLoaded (length bytes)) segments → All LiesLow pieces
low_pieces bytes segments pieces e h =
    All-same LiesLow pieces _ e (All-map LiesLow (piece_in bytes) segments (All-weaker (IsLoaded (length bytes)) (λ s. LiesLow (piece_in bytes s)) (low_piece bytes) segments h))
