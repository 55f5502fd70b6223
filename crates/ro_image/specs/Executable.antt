-- The image of an executable file, or the code by which it is refused.
use Rattle.std.specs.Prelude.{◌≡◌, ◌≤◌, ℕ, ◌+◌, ◌*◌, ◌/◌, true, false, max, List, [], ◌∷◌, Option, Some, None, Result, Ok, Err, fold, map, slice_range, is_none, if◌then◌else◌}
use Rattle.ro_elf.specs.Errors.{number_of}
use Rattle.ro_elf.specs.Header.{section_table_of}
use Rattle.ro_elf.specs.Segments.{end_of, is_readable, is_writable, is_executable}
use Rattle.ro_elf.specs.Elf.{Elf, elf_of, bad_headers}
use Rattle.ro_elf.specs.declared.segments.Segment.{Segment}
use Rattle.ro_event.specs.declared.table.CallTable.{CallTable}
use Rattle.ro_region.specs.declared.Range.{Range}
use Rattle.ro_sym.specs.Addresses.{Position, function_over, object_over}
use Rattle.ro_sym.specs.Calls.{calls_of}
use Rattle.ro_image.specs.Image.{Piece, Image, ranges_with}
use Rattle.ro_image.specs.declared.errors.ImageError.{ImageError}
use Rattle.ro_image.specs.declared.errors.ImageError.TheVariants.{Bad, NoMemory}

-- the code by which the symbols of a file with that table are refused, if they are
abbrev pub refusal_of : Result CallTable ℕ → Option ℕ
refusal_of (Ok calls) = None
refusal_of (Err code) = Some code

-- no function of POSIX threads is called
abbrev pub no_calls : CallTable
no_calls = record { addresses = None ∷ None ∷ None ∷ None ∷ None ∷ None ∷ None ∷ None ∷ None ∷ [] }

abbrev pub table_of : Result CallTable ℕ → CallTable
table_of (Ok calls) = calls
table_of (Err code) = no_calls

-- the headers are checked before the symbols
abbrev pub or_behind : Option ℕ → Option ℕ → Option ℕ
or_behind (Some code) behind = Some code
or_behind None behind = behind

-- the code by which a file is refused, if it is: 1 to 15 by its headers, 16 and 17 by its symbols
abbrev pub bad_code : List ℕ → Option ℕ
bad_code bytes = or_behind (bad_headers bytes) (refusal_of (calls_of bytes (section_table_of bytes)))

-- the bytes that the file has of a segment, which may be none
abbrev pub piece_in : List ℕ → Segment → Piece
piece_in bytes segment = record { place = segment.address; bytes = slice_range bytes segment.offset (segment.offset + segment.file_size) }

-- a segment's addresses and what its flags permit
abbrev pub range_of : Segment → Range
range_of segment = record {
  start = segment.address;
  length = segment.memory_size;
  read = is_readable segment;
  write = is_writable segment;
  execute = is_executable segment;
}

-- a range of data
abbrev pub data_range : (start length : ℕ) → Range
data_range start length = record { start = start; length = length; read = true; write = true; execute = false }

-- a segment that ends below the addresses of stacks
abbrev pub EndsLow : Segment → Type 0
EndsLow segment = end_of segment ≤ 0x40000000

-- the first address behind all segments
abbrev pub top_of : List Segment → ℕ
top_of segments = fold (λ top segment. max top (end_of segment)) 0 segments

-- rounded up to the start of a page
abbrev pub page_start : ℕ → ℕ
page_start a = (a + 4095) / 4096 * 4096

-- where the heap starts behind segments
abbrev pub heap_over : List Segment → ℕ
heap_over segments = page_start (top_of segments)

-- the image of a file with those headers and calls
unfoldable pub image_from : List ℕ → Elf → CallTable → Image
image_from bytes elf calls = record {
  pieces = map (piece_in bytes) elf.segments;
  ranges = ranges_with (map range_of elf.segments) (heap_over elf.segments);
  calls = calls;
  entry = elf.entry;
  heap = heap_over elf.segments;
}

-- the image of an accepted file
abbrev pub image_of : List ℕ → Image
image_of bytes = image_from bytes (elf_of bytes) (table_of (calls_of bytes (section_table_of bytes)))

-- the refusal of a file; there is no memory only by chance
abbrev pub Refuses : List ℕ → ImageError → Type 0
Refuses bytes (Bad error) = bad_code bytes ≡ Some (number_of error)
Refuses bytes NoMemory = Unit {0}

-- where an address lies in the functions of a file whose headers are accepted
abbrev pub function_in : List ℕ → (address : ℕ) → Option Position
function_in bytes address = if is_none (bad_headers bytes) then function_over bytes (section_table_of bytes) address else None

-- where it lies in the data objects of such a file
abbrev pub object_in : List ℕ → (address : ℕ) → Option Position
object_in bytes address = if is_none (bad_headers bytes) then object_over bytes (section_table_of bytes) address else None
