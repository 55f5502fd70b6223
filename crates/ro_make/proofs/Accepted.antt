-- Made files pass the checks of their headers.
use Rattle.std.proofs.Common.{◌≡◌, ℕ, ◌+◌, ◌*◌, ◌%◌, ◌^◌, ◌<◌, ◌≤◌, Bool, true, cond, nat_lt, List, [], ◌∷◌, ◌++◌, Option, Some, None, length, sym, ap, ◌∙◌, arith, length-append, append-nil, append_assoc, le-leb, lt-ltb}
use Rattle.std.specs.Prelude.{nat_le, ◌==◌, flat_map}
use Rattle.byteorder.specs.Endian.{little_number}
use Rattle.ro_elf.specs.Numbers.{half_in, word_in}
use Rattle.ro_elf.specs.Checks.{first_failing}
use Rattle.ro_elf.specs.Header.{header_checks, entry_in}
use Rattle.ro_elf.specs.Elf.{bad_headers}
use Rattle.ro_elf.proofs.Checking.{first_failing-append_none}
use Rattle.ro_elf.specs.Segments.{header_in, headers_of, segment_checks}
use Rattle.ro_elf.specs.declared.header.SectionTable.{SectionTable}
use Rattle.ro_make.specs.Names.{word, Name, symbols_of, strings_of}
use Rattle.ro_make.specs.Made.{headers_of as made_headers, program_of, size_with, no_sections, section_headers_of, file_of}

-- a word is read as it was written
word_again : (n : ℕ) (rest : List ℕ) → n < 2 ^ 32 → little_number 4 (word n ++ rest) ≡ n
word_again n rest h = omega arith

header_passes : (size flags : ℕ) (sections : SectionTable) (rest : List ℕ) → first_failing (header_checks (made_headers size flags sections ++ rest)) ≡ None
unfolding made_headers half_in word_in
header_passes size flags sections rest =
    let file : List ℕ = made_headers size flags sections ++ rest in
    let long : nat_le 52 (length file) ≡ true = le-leb 52 (length file) (omega arith) in
    let whole : nat_le 84 (length file) ≡ true = le-leb 84 (length file) (omega arith) in
    ap (λ (b : Bool). cond b (cond (nat_le 84 (length file)) None (Some 10)) (Some 1)) long ∙ ap (λ (b : Bool). cond b None (Some 10)) whole

-- what the checks of the program headers say of one that loads the file at 0x10000, whose size and flags are these
abbrev segment_code : (count size flags : ℕ) → Option ℕ
segment_code count size flags =
    first_failing (segment_checks count 0x10054 (record { kind = 1; offset = 0; address = 0x10000; file_size = size; memory_size = size; flags = flags } ∷ []))

segment_passes : (count size flags : ℕ) → 88 ≤ size → size ≤ 262228 → size ≤ count → flags % 2 ≡ 1 → segment_code count size flags ≡ None
segment_passes count size flags some few held runs =
    let t1 : nat_lt 0 size ≡ true = lt-ltb 0 size (omega arith) in
    let t2 : nat_le (0 + size) count ≡ true = le-leb (0 + size) count (omega arith) in
    let t3 : nat_le size size ≡ true = le-leb size size (omega arith) in
    let t4 : nat_le (0x10000 + size) 0x40000000 ≡ true = le-leb (0x10000 + size) 0x40000000 (omega arith) in
    let t5 : nat_lt 0x10054 (0x10000 + size) ≡ true = lt-ltb 0x10054 (0x10000 + size) (omega arith) in
    let t6 : nat_lt 0x10055 (0x10000 + size) ≡ true = lt-ltb 0x10055 (0x10000 + size) (omega arith) in
    let t7 : nat_lt 0x10056 (0x10000 + size) ≡ true = lt-ltb 0x10056 (0x10000 + size) (omega arith) in
    let t8 : nat_lt 0x10057 (0x10000 + size) ≡ true = lt-ltb 0x10057 (0x10000 + size) (omega arith) in
    let t9 : nat_le (0 + size) 4194304 ≡ true = le-leb (0 + size) 4194304 (omega arith) in
    let t10 : (flags % 2 == 1) ≡ true = ap (λ (k : ℕ). k == 1) runs in
    simp (t1, t2, t3, t4, t5, t6, t7, t8, t9, t10)

length-words : (words : List ℕ) → length (flat_map word words) ≡ 4 * length words
length-words [] = omega arith
length-words (w ∷ words) = let e : length (flat_map word words) ≡ 4 * length words = length-words words in omega arith

-- the file of so many words is as long as its segment at least
held : (words : List ℕ) (flags : ℕ) (sections : SectionTable) (rest : List ℕ) → size_with (length words) ≤ length (program_of words flags sections ++ rest)
unfolding made_headers
held words flags sections rest = omega (arith, length-append (flat_map word words) rest, length-words words)

-- A file of 1 to 65,536 words whose segment may be executed passes the checks of its headers, whatever stands behind the words.
pub made_passes : (words : List ℕ) (flags : ℕ) (sections : SectionTable) (rest : List ℕ) → 0 < length words → length words ≤ 65536 → flags < 2 ^ 32 → flags % 2 ≡ 1
    → bad_headers (program_of words flags sections ++ rest) ≡ None
unfolding bad_headers headers_of header_in half_in word_in made_headers
made_passes words flags sections rest some few fits runs =
    let size : ℕ = size_with (length words) in
    let file : List ℕ = program_of words flags sections ++ rest in
    let segment : segment_code (length file) size flags ≡ None = segment_passes (length file) size flags (omega arith) (omega arith) (held words flags sections rest) runs in
    first_failing-append_none (header_checks file) (segment_checks (length file) (entry_in file) (headers_of file)) (header_passes size flags sections (flat_map word words ++ rest))
    ∙ ap (λ (s : ℕ). segment_code (length file) s (word_in file 76)) (word_again size [] (omega arith))
    ∙ ap (λ (f : ℕ). segment_code (length file) size f) (word_again flags [] fits)
    ∙ segment

-- the same of the whole file
pub file_passes : (words : List ℕ) (flags : ℕ) (names : List Name) → 0 < length words → length words ≤ 65536 → flags < 2 ^ 32 → flags % 2 ≡ 1
    → bad_headers (file_of words flags names) ≡ None
file_passes words flags [] some few fits runs =
    ap bad_headers (sym (append-nil (program_of words flags no_sections))) ∙ made_passes words flags no_sections [] some few fits runs
file_passes words flags (name ∷ names) some few fits runs =
    let place : ℕ = size_with (length words) in
    let symbols : List ℕ = symbols_of (name ∷ names) in
    let strings : List ℕ = strings_of (name ∷ names) in
    let sections : SectionTable = record { offset = place + length symbols + length strings; entry_size = 40; count = 3 } in
    let ends : List ℕ = section_headers_of place (length symbols) (length strings) in
    let program : List ℕ = program_of words flags sections in
    let regrouped : ((program ++ symbols) ++ strings) ++ ends ≡ program ++ (symbols ++ (strings ++ ends)) =
    append_assoc (program ++ symbols) strings ends ∙ append_assoc program symbols (strings ++ ends)
    in
    ap bad_headers regrouped ∙ made_passes words flags sections (symbols ++ (strings ++ ends)) some few fits runs
