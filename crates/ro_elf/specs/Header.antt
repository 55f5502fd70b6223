-- The header of an ELF32 file and its checks.
use Rattle.std.specs.Prelude.{◌≤◌, ℕ, ◌+◌, ◌*◌, ◌%◌, Bool, ◌&&◌, List, [], ◌∷◌, length, nat_eq, nat_le, ◌==◌}
use Rattle.std.specs.List.{starts_with}
use Rattle.ro_elf.specs.Numbers.{byte_in, half_in, word_in}
use Rattle.ro_elf.specs.Checks.{Check}
use Rattle.ro_elf.specs.declared.header.SectionTable.{SectionTable}

-- the fields of the header, by their offsets in the file
abbrev pub class_in : List ℕ → ℕ
class_in bytes = byte_in bytes 4

abbrev pub encoding_in : List ℕ → ℕ
encoding_in bytes = byte_in bytes 5

abbrev pub identification_version_in : List ℕ → ℕ
identification_version_in bytes = byte_in bytes 6

abbrev pub type_in : List ℕ → ℕ
type_in bytes = half_in bytes 16

abbrev pub machine_in : List ℕ → ℕ
machine_in bytes = half_in bytes 18

abbrev pub version_in : List ℕ → ℕ
version_in bytes = word_in bytes 20

abbrev pub entry_in : List ℕ → ℕ
entry_in bytes = word_in bytes 24

abbrev pub headers_offset_in : List ℕ → ℕ
headers_offset_in bytes = word_in bytes 28

abbrev pub sections_offset_in : List ℕ → ℕ
sections_offset_in bytes = word_in bytes 32

abbrev pub flags_in : List ℕ → ℕ
flags_in bytes = word_in bytes 36

abbrev pub header_size_in : List ℕ → ℕ
header_size_in bytes = half_in bytes 42

abbrev pub header_count_in : List ℕ → ℕ
header_count_in bytes = half_in bytes 44

abbrev pub section_size_in : List ℕ → ℕ
section_size_in bytes = half_in bytes 46

abbrev pub section_count_in : List ℕ → ℕ
section_count_in bytes = half_in bytes 48

-- where the section headers stand
abbrev pub section_table_of : List ℕ → SectionTable
section_table_of bytes = record { offset = sections_offset_in bytes; entry_size = section_size_in bytes; count = section_count_in bytes }

-- both version fields are 1
abbrev pub has_version_one : List ℕ → Bool
has_version_one bytes = (identification_version_in bytes == 1) && (version_in bytes == 1)

-- the program headers have their size, and 1 to 32 are there
abbrev pub has_header_sizes : List ℕ → Bool
has_header_sizes bytes = (header_size_in bytes == 32) && nat_le 1 (header_count_in bytes) && nat_le (header_count_in bytes) 32

-- they lie in the file
abbrev pub holds_headers : List ℕ → Bool
holds_headers bytes = nat_le (headers_offset_in bytes + 32 * header_count_in bytes) (length bytes)

abbrev pub magic : List ℕ
magic = 0x7F ∷ 0x45 ∷ 0x4C ∷ 0x46 ∷ []

-- The checks of the header: its 52 bytes and magic, 32 bits, little endian, version 1, executable, RISC-V, none of the
-- flags RVC, float ABI and RVE, and 1 to 32 program headers that lie in the file.
abbrev pub header_checks : List ℕ → List Check
header_checks bytes =
    (nat_le 52 (length bytes), 1)
    ∷ (starts_with nat_eq bytes magic, 2)
    ∷ (class_in bytes == 1, 3)
    ∷ (encoding_in bytes == 1, 4)
    ∷ (has_version_one bytes, 5)
    ∷ (type_in bytes == 2, 6)
    ∷ (machine_in bytes == 243, 7)
    ∷ (flags_in bytes % 16 == 0, 8)
    ∷ (has_header_sizes bytes, 9)
    ∷ (holds_headers bytes, 10)
    ∷ []

-- the header and 1 to 32 program headers lie in the file
pub record HoldsHeaders (bytes : List ℕ) : Type 0 where
  pub header : 52 ≤ length bytes
  pub few : header_count_in bytes ≤ 32
  pub headers : headers_offset_in bytes + 32 * header_count_in bytes ≤ length bytes
