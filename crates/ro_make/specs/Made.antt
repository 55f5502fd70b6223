-- The files made of words.
use Rattle.std.specs.Prelude.{ℕ, ◌+◌, ◌*◌, List, [], ◌∷◌, ◌++◌, length, replicate, flat_map}
use Rattle.ro_elf.specs.declared.header.SectionTable.{SectionTable}
use Rattle.ro_make.specs.Names.{half, word, Name, symbols_of, strings_of}

-- the headers, and the size of the segment: the headers and so many words
abbrev pub size_with : (count : ℕ) → ℕ
size_with count = 84 + 4 * count

-- The header of the file and that of its only segment, which begins with them.
unfoldable pub headers_of : (size flags : ℕ) → SectionTable → List ℕ
headers_of size flags sections =
    -- identification: magic, 32 bits, little endian, version 1
    (0x7F ∷ 0x45 ∷ 0x4C ∷ 0x46 ∷ 1 ∷ 1 ∷ 1 ∷ replicate 9 0)
    -- type executable, machine RISC-V, version, entry behind the headers, program headers, section headers, flags
    ++ half 2 ++ half 243 ++ word 1 ++ word 0x10054 ++ word 52 ++ word sections.offset ++ word 0
    -- sizes of the header and of a program header, one program header, size and number of section headers, names of none
    ++ half 52 ++ half 32 ++ half 1 ++ half sections.entry_size ++ half sections.count ++ half 0
    -- the segment: type load, offset, addresses, sizes, flags, alignment
    ++ word 1 ++ word 0 ++ word 0x10000 ++ word 0x10000 ++ word size ++ word size ++ word flags ++ word 4096

abbrev pub no_sections : SectionTable
no_sections = record { offset = 0; entry_size = 0; count = 0 }

-- the headers and the words
abbrev pub program_of : List ℕ → (flags : ℕ) → SectionTable → List ℕ
program_of words flags sections = headers_of (size_with (length words)) flags sections ++ flat_map word words

-- the section headers: none, the symbols and their strings, which stand at a place one after the other
unfoldable pub section_headers_of : (place symbols strings : ℕ) → List ℕ
section_headers_of place symbols strings =
    replicate 40 0
    ++ word 0 ++ word 2 ++ word 0 ++ word 0 ++ word place ++ word symbols ++ word 2 ++ word 1 ++ word 4 ++ word 16
    ++ word 0 ++ word 3 ++ word 0 ++ word 0 ++ word (place + symbols) ++ word strings ++ word 0 ++ word 0 ++ word 1 ++ word 0

-- The file made of words, with a segment of those flags, and of names.
abbrev pub file_of : List ℕ → (flags : ℕ) → List Name → List ℕ
file_of words flags [] = program_of words flags no_sections
file_of words flags (name ∷ names) =
    let place = size_with (length words) in
    let symbols = symbols_of (name ∷ names) in
    let strings = strings_of (name ∷ names) in
    program_of words flags (record { offset = place + length symbols + length strings; entry_size = 40; count = 3 })
    ++ symbols
    ++ strings
    ++ section_headers_of place (length symbols) (length strings)
