-- What the headers of an executable say, and the code by which a file is refused.
use Rattle.std.specs.Prelude.{◌+◌, ◌≤◌, ◌<◌, ◌++◌, ℕ, List, Option, length, sum_by}
use Rattle.ro_elf.specs.Checks.{first_failing}
use Rattle.ro_elf.specs.Header.{header_checks, entry_in, section_table_of}
use Rattle.ro_elf.specs.Segments.{headers_of, segments_of, segment_checks}
use Rattle.ro_elf.specs.declared.header.SectionTable.{SectionTable}
use Rattle.ro_elf.specs.declared.segments.Segment.{Segment}

pub record Elf : Type 0 where
  pub entry : ℕ
  pub sections : SectionTable
  pub segments : List Segment

abbrev pub elf_of : List ℕ → Elf
elf_of bytes = record { entry = entry_in bytes; sections = section_table_of bytes; segments = segments_of (headers_of bytes) }

-- the code of the first check of the headers that a file fails, if it fails one
unfoldable pub bad_headers : List ℕ → Option ℕ
bad_headers bytes = first_failing (header_checks bytes ++ segment_checks (length bytes) (entry_in bytes) (headers_of bytes))

-- a segment of a file of so many bytes: it isn't empty, its bytes lie in the file and its place among the addresses of programs
pub record IsLoaded (size : ℕ) (segment : Segment) : Type 0 where
  pub some : 0 < segment.memory_size
  pub in_file : segment.offset + segment.file_size ≤ size
  pub in_memory : segment.file_size ≤ segment.memory_size
  pub above : 0x10000 ≤ segment.address
  pub below : segment.address + segment.memory_size ≤ 0x40000000

-- an address is that of one of the segment's bytes
abbrev pub HasAddress : Segment → (address : ℕ) → Type 0
HasAddress segment address = (segment.address ≤ address) × (address < segment.address + segment.memory_size)

-- no address is that of bytes of both
abbrev pub SharesNone : Segment → Segment → Type 0
SharesNone a b = (address : ℕ) → HasAddress a address → HasAddress b address → ⊥

-- how many bytes of memory segments have
abbrev pub memory_of : List Segment → ℕ
memory_of segments = sum_by (λ segment. segment.memory_size) segments
