-- The guest that measures: workers that add numbers to one word under one mutex.
use Rattle.std.specs.Prelude.{ℕ, ◌+◌, ◌-◌, ◌*◌, ◌%◌, ◌^◌, List, [], ◌∷◌, ◌++◌, nat_le, if◌then◌else◌, map, codes}
use Rattle.ro_decode.specs.Table.{word_of}
use Rattle.ro_decode.specs.declared.AluOp.TheVariants.{Add, Sll, Srl, Sltu}
use Rattle.ro_decode.specs.declared.LoadOp.TheVariants.{Lw}
use Rattle.ro_decode.specs.declared.StoreOp.TheVariants.{Sb, Sw}
use Rattle.ro_decode.specs.declared.BranchOp.TheVariants.{Bne, Bltu}
use Rattle.ro_decode.specs.declared.Instr.{Instr}
use Rattle.ro_decode.specs.declared.Instr.TheVariants.{Lui, Jal, Jalr, Branch, Load, Store, AluImm, Alu, Ecall}
use Rattle.ro_make.specs.Names.{Name, named}
use Rattle.ro_make.specs.Made.{file_of}

-- how many workers a seed asks for, and what each starts from
abbrev pub workers_of : (seed : ℕ) → ℕ
workers_of seed = 2 + seed % 14

abbrev pub base_of : (seed : ℕ) → ℕ
base_of seed = seed % 2 ^ 16

-- from 0x10000 to the word at a place of the file
abbrev pub offset_of : (place : ℕ) → ℕ
offset_of place = 84 + 4 * place

-- from the word at one place to that at another, as 32 bits
abbrev pub way : (from to : ℕ) → ℕ
way from to = if nat_le from to then 4 * (to - from) else 2 ^ 32 - 4 * (from - to)

-- x1 to be returned to, x5 to x7 and x10 to x17 for anything, x8 0x10000, x9 a worker's number, x18 what it adds, x19 its
-- rounds that are left
abbrev pub bench_code : List Instr
bench_code =
    -- 0: makes the workers
    Lui 8 0x10000
    ∷ AluImm Add 9 0 0
    ∷ AluImm Add 9 9 1
    ∷ AluImm Add 10 8 (offset_of 58)
    ∷ AluImm Add 11 0 0
    ∷ AluImm Add 12 8 (offset_of 37)
    ∷ AluImm Add 13 9 0
    ∷ Jal 1 (way 7 53)
    ∷ Load Lw 5 8 (offset_of 64)
    ∷ Branch Bltu 9 5 (way 9 2)
    -- 10: joins them
    ∷ AluImm Add 9 0 0
    ∷ AluImm Add 9 9 1
    ∷ AluImm Add 10 9 0
    ∷ AluImm Add 11 0 0
    ∷ Jal 1 (way 14 54)
    ∷ Load Lw 5 8 (offset_of 64)
    ∷ Branch Bltu 9 5 (way 16 11)
    -- 17: puts the digits of the sum into the text
    ∷ Load Lw 5 8 (offset_of 60)
    ∷ AluImm Add 6 8 (offset_of 61)
    ∷ AluImm Add 7 6 8
    ∷ AluImm Srl 10 5 28
    ∷ AluImm Add 11 10 48
    ∷ AluImm Sltu 12 10 10
    ∷ Branch Bne 12 0 (way 23 25)
    ∷ AluImm Add 11 10 87
    ∷ Store Sb 6 11 0
    ∷ AluImm Sll 5 5 4
    ∷ AluImm Add 6 6 1
    ∷ Branch Bne 6 7 (way 28 20)
    -- 29: writes the text, and exits with 0
    ∷ AluImm Add 10 0 1
    ∷ AluImm Add 11 8 (offset_of 61)
    ∷ AluImm Add 12 0 9
    ∷ AluImm Add 17 0 64
    ∷ Ecall
    ∷ AluImm Add 10 0 0
    ∷ AluImm Add 17 0 93
    ∷ Ecall
    -- 37: a worker
    ∷ Lui 8 0x10000
    ∷ AluImm Add 9 10 0
    ∷ Load Lw 18 8 (offset_of 65)
    ∷ Load Lw 19 8 (offset_of 66)
    -- 41: a round
    ∷ Alu Add 18 18 9
    ∷ AluImm Add 10 8 (offset_of 59)
    ∷ Jal 1 (way 43 55)
    ∷ Load Lw 5 8 (offset_of 60)
    ∷ Alu Add 5 5 18
    ∷ Store Sw 8 5 (offset_of 60)
    ∷ AluImm Add 10 8 (offset_of 59)
    ∷ Jal 1 (way 48 56)
    ∷ AluImm Add 19 19 (2 ^ 32 - 1)
    ∷ Branch Bne 19 0 (way 50 41)
    ∷ AluImm Add 10 0 0
    ∷ Jal 1 (way 52 57)
    -- 53: the functions that are called
    ∷ Jalr 0 1 0
    ∷ Jalr 0 1 0
    ∷ Jalr 0 1 0
    ∷ Jalr 0 1 0
    ∷ Jalr 0 1 0
    ∷ []

-- 58: a thread's number, the mutex, the sum, and the text, of eight digits and a line feed
abbrev pub bench_data : List ℕ
bench_data = 0 ∷ 0 ∷ 0 ∷ 0 ∷ 0 ∷ 10 ∷ []

-- The words of the guest; at 64 stand the number of workers, what each starts from, and the number of rounds.
abbrev pub bench_words : (seed size : ℕ) → List ℕ
bench_words seed size = map word_of bench_code ++ bench_data ++ workers_of seed ∷ base_of seed ∷ size ∷ []

-- the function at a place
abbrev pub function_at : List ℕ → (place : ℕ) → Name
function_at text place = named text (0x10000 + offset_of place)

abbrev pub bench_names : List Name
bench_names =
    function_at (codes "pthread_create") 53
    ∷ function_at (codes "pthread_join") 54
    ∷ function_at (codes "pthread_mutex_lock") 55
    ∷ function_at (codes "pthread_mutex_unlock") 56
    ∷ function_at (codes "pthread_exit") 57
    ∷ []

-- the guest's file, whose bytes may be read, written and executed
abbrev pub bench_file : (seed size : ℕ) → List ℕ
bench_file seed size = file_of (bench_words seed size) 7 bench_names
