-- The program headers of an ELF32 file, the segments that they load, and their checks.
use Rattle.std.specs.Prelude.{ℕ, zero, suc, ◌+◌, ◌/◌, ◌%◌, Bool, true, false, ◌&&◌, ◌||◌, List, [], ◌∷◌, nat_le, nat_lt, ◌==◌, if◌then◌else◌, map, filter, sum_by}
use Rattle.std.specs.List.{list_any, list_all}
use Rattle.ro_elf.specs.Numbers.{word_in}
use Rattle.ro_elf.specs.Checks.{Check}
use Rattle.ro_elf.specs.Header.{headers_offset_in, header_count_in}
use Rattle.ro_elf.specs.declared.segments.ProgramHeader.{ProgramHeader}
use Rattle.ro_elf.specs.declared.segments.Segment.{Segment}

-- the program header at an offset
unfoldable pub header_in : List ℕ → (offset : ℕ) → ProgramHeader
header_in bytes offset = record {
  kind = word_in bytes offset;
  offset = word_in bytes (offset + 4);
  address = word_in bytes (offset + 8);
  file_size = word_in bytes (offset + 16);
  memory_size = word_in bytes (offset + 20);
  flags = word_in bytes (offset + 24);
}

-- so many program headers from an offset on, 32 bytes each
abbrev pub headers_from : List ℕ → (offset count : ℕ) → List ProgramHeader
headers_from bytes offset zero = []
headers_from bytes offset (suc n) = header_in bytes offset ∷ headers_from bytes (offset + 32) n

unfoldable pub headers_of : List ℕ → List ProgramHeader
headers_of bytes = headers_from bytes (headers_offset_in bytes) (header_count_in bytes)

-- of none of the types dynamic, interpreter and thread-local
abbrev pub is_static : ProgramHeader → Bool
is_static header = if (header.kind == 2) || (header.kind == 3) || (header.kind == 7) then false else true

-- of the type that is loaded
abbrev pub is_load : ProgramHeader → Bool
is_load header = header.kind == 1

-- where it is loaded, its bytes lie in a file of so many, and in memory
abbrev pub has_bytes : (size : ℕ) → ProgramHeader → Bool
has_bytes size header =
    if is_load header then nat_le (header.offset + header.file_size) size && nat_le header.file_size header.memory_size else true

-- what it loads
abbrev pub loaded_size : ProgramHeader → ℕ
loaded_size header = if is_load header then header.memory_size else 0

-- whether it gives a segment
abbrev pub is_segment : ProgramHeader → Bool
is_segment header = is_load header && nat_lt 0 header.memory_size

abbrev pub segment_of : ProgramHeader → Segment
segment_of header = record {
  offset = header.offset;
  address = header.address;
  file_size = header.file_size;
  memory_size = header.memory_size;
  flags = header.flags;
}

-- the segments, in the order of their headers
abbrev pub segments_of : List ProgramHeader → List Segment
segments_of headers = map segment_of (filter is_segment headers)

-- what may be done with its bytes
abbrev pub is_readable : Segment → Bool
is_readable segment = segment.flags / 4 % 2 == 1

abbrev pub is_writable : Segment → Bool
is_writable segment = segment.flags / 2 % 2 == 1

abbrev pub is_executable : Segment → Bool
is_executable segment = segment.flags % 2 == 1

-- the first address behind it
abbrev pub end_of : Segment → ℕ
end_of segment = segment.address + segment.memory_size

-- within the addresses of programs
abbrev pub is_within : Segment → Bool
is_within segment = nat_le 0x10000 segment.address && nat_le (end_of segment) 0x40000000

-- a segment ends before the other starts
abbrev pub is_apart : Segment → Segment → Bool
is_apart a b = nat_le (end_of a) b.address || nat_le (end_of b) a.address

-- no two share a byte
abbrev pub are_apart : List Segment → Bool
are_apart [] = true
are_apart (segment ∷ segments) = list_all (is_apart segment) segments && are_apart segments

-- all lie among the addresses of programs, and no two share a byte
abbrev pub lie_among : List Segment → Bool
lie_among segments = list_all is_within segments && are_apart segments

-- the byte at an address is one of the segment's, and may be executed
abbrev pub executes_at : (address : ℕ) → Segment → Bool
executes_at address segment = nat_le segment.address address && nat_lt address (end_of segment) && is_executable segment

-- the byte at an address may be executed
abbrev pub executes : List Segment → (address : ℕ) → Bool
executes segments address = list_any (executes_at address) segments

-- a whole word at a multiple of 4 may be executed
abbrev pub starts_at : List Segment → (entry : ℕ) → Bool
starts_at segments entry =
    (entry % 4 == 0) && executes segments entry && executes segments (entry + 1) && executes segments (entry + 2) && executes segments (entry + 3)

-- they take 4 MiB of memory at most
abbrev pub fits_memory : List ProgramHeader → Bool
fits_memory headers = nat_le (sum_by loaded_size headers) 4194304

-- The checks of the program headers of a file of so many bytes: nothing to be linked, bytes that are there, segments
-- within their addresses and apart, an entry that may be executed, and 4 MiB at most.
abbrev pub segment_checks : (size entry : ℕ) → List ProgramHeader → List Check
segment_checks size entry headers =
    (list_all is_static headers, 11)
    ∷ (list_all (has_bytes size) headers, 12)
    ∷ (lie_among (segments_of headers), 13)
    ∷ (starts_at (segments_of headers) entry, 14)
    ∷ (fits_memory headers, 15)
    ∷ []
