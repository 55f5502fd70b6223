-- The sections of an ELF32 file: which holds its symbols, and which their names.
use Rattle.std.specs.Prelude.{ℕ, ◌+◌, ◌*◌, ◌/◌, ◌%◌, Bool, ◌&&◌, List, [], Option, Some, None, Result, Ok, Err, length, map, find, nat_le, nat_lt, ◌==◌, if◌then◌else◌, slice_index_or, slice_range}
use Rattle.std.specs.Simd.{first_chunks}
use Rattle.ro_elf.specs.Numbers.{word_in}
use Rattle.ro_elf.specs.declared.header.SectionTable.{SectionTable}
use Rattle.ro_sym.specs.declared.sections.Section.{Section}

-- the pieces of so many bytes
abbrev pub pieces_of : (size : ℕ) → List ℕ → List (List ℕ)
pieces_of size bytes = first_chunks size (length bytes / size) bytes

-- a section header by its 40 bytes
unfoldable pub section_in : List ℕ → Section
section_in header = record { kind = word_in header 4; offset = word_in header 16; size = word_in header 20; link = word_in header 24 }

-- a file without section headers has none of its symbols named
abbrev pub has_sections : SectionTable → Bool
has_sections table = nat_lt 0 table.offset && nat_lt 0 table.count

-- the section headers have their size and lie in the file
abbrev pub holds_sections : List ℕ → SectionTable → Bool
holds_sections bytes table = (table.entry_size == 40) && nat_le (table.offset + 40 * table.count) (length bytes)

-- the section headers, 40 bytes each
abbrev pub section_headers : List ℕ → SectionTable → List (List ℕ)
section_headers bytes table = pieces_of 40 (slice_range bytes table.offset (table.offset + 40 * table.count))

abbrev pub is_symbol_table : Section → Bool
is_symbol_table section = section.kind == 2

abbrev pub is_strings : Section → Bool
is_strings section = section.kind == 3

-- its bytes lie in the file
abbrev pub is_held : List ℕ → Section → Bool
is_held bytes section = nat_le (section.offset + section.size) (length bytes)

-- its bytes
abbrev pub content_of : List ℕ → Section → List ℕ
content_of bytes section = slice_range bytes section.offset (section.offset + section.size)

-- the symbols of a file, 16 bytes each, and the bytes that their names stand in
pub record SymbolTable : Type 0 where
  pub symbols : List (List ℕ)
  pub strings : List ℕ

abbrev pub no_symbols : SymbolTable
no_symbols = record { symbols = []; strings = [] }

-- the symbols lie in the file, each whole, and name a section for their strings
abbrev pub holds_symbols : List ℕ → (count : ℕ) → Section → Bool
holds_symbols bytes count symbols = is_held bytes symbols && (symbols.size % 16 == 0) && nat_lt symbols.link count

abbrev pub holds_strings : List ℕ → Section → Bool
holds_strings bytes strings = is_strings strings && is_held bytes strings

-- the symbols of a symbol table and the strings that it is linked to
abbrev pub symbols_with : List ℕ → (symbols strings : Section) → Result SymbolTable ℕ
symbols_with bytes symbols strings =
    if holds_strings bytes strings then Ok (record { symbols = pieces_of 16 (content_of bytes symbols); strings = content_of bytes strings }) else Err 16

abbrev pub symbols_under : List ℕ → (headers : List (List ℕ)) → Option Section → Result SymbolTable ℕ
symbols_under bytes headers None = Ok no_symbols
symbols_under bytes headers (Some symbols) =
    if holds_symbols bytes (length headers) symbols then symbols_with bytes symbols (section_in (slice_index_or headers symbols.link [])) else Err 16

-- the symbols of the first symbol table among section headers
abbrev pub symbols_among : List ℕ → (headers : List (List ℕ)) → Result SymbolTable ℕ
symbols_among bytes headers = symbols_under bytes headers (find is_symbol_table (map section_in headers))

-- The symbols of a file: those of its first symbol table. None, where it has no sections or no symbol table; else code 16,
-- where the section headers, the symbols or their strings aren't as they must be.
abbrev pub symbols_of : List ℕ → SectionTable → Result SymbolTable ℕ
symbols_of bytes table =
    if has_sections table
    then (if holds_sections bytes table then symbols_among bytes (section_headers bytes table) else Err 16)
    else Ok no_symbols
