-- What tables are asked of: each instruction once, files, calls of the kernel, and threads.
use Rattle.std.specs.Prelude.{ℕ, List, [], ◌∷◌, ◌++◌, Option, Some, None, replicate, slice_set, map, find, codes}
use Rattle.std.specs.List.{flat_map}
use Rattle.std.specs.Option.{option_map}
use Rattle.ro_decode.specs.declared.Instr.{Instr}
use Rattle.ro_decode.specs.declared.Instr.TheVariants.{Lui, Auipc, Jal, Jalr, Branch, Load, Store, AluImm, Alu, MulDiv, Fence, Atomic, Ecall, Ebreak}
use Rattle.ro_decode.specs.declared.AluOp.TheVariants.{Add, Sub, Sll, Slt, Sltu, Xor, Srl, Sra, Or, And}
use Rattle.ro_decode.specs.declared.MulDivOp.TheVariants.{Mul, Mulh, Mulhsu, Mulhu, Div, Divu, Rem, Remu}
use Rattle.ro_decode.specs.declared.LoadOp.TheVariants.{Lb, Lh, Lw, Lbu, Lhu}
use Rattle.ro_decode.specs.declared.StoreOp.TheVariants.{Sb, Sh, Sw}
use Rattle.ro_decode.specs.declared.BranchOp.TheVariants.{Beq, Bne, Blt, Bge, Bltu, Bgeu}
use Rattle.ro_decode.specs.declared.AtomicOp.TheVariants.{LoadReserved, StoreConditional, AmoSwap, AmoAdd, AmoXor, AmoAnd, AmoOr, AmoMin, AmoMax, AmoMinu, AmoMaxu}
use Rattle.ro_alu.specs.Results.{muldiv_of, amo_of}
use Rattle.ro_event.specs.declared.calls.Which.{Which}
use Rattle.ro_event.specs.declared.calls.Which.TheVariants.{System, Function}
use Rattle.ro_event.specs.declared.functions.Function.TheVariants.{ThreadSelf, MutexInit, MutexDestroy, Lock, TryLock, Unlock, ConditionInit, ConditionDestroy, Wait, Signal, Broadcast}
use Rattle.ro_event.specs.declared.functions.Function.{Function as Posix}
use Rattle.ro_region.specs.declared.Range.{Range}
use Rattle.ro_event.specs.declared.calls.Call.{Call}
use Rattle.ro_event.specs.Views.{same_numbers}
use Rattle.ro_pages.specs.Bytes.{bytes_of, stored}
use Rattle.ro_mutex.specs.Owners.{Owners}
use Rattle.ro_kernel.specs.declared.Life.{Life}
use Rattle.ro_kernel.specs.declared.Life.TheVariants.{Live, Exited, Joined}
use Rattle.ro_kernel.specs.Kernel.{Kernel, ranges_in}
use Rattle.ro_kernel.specs.Serve.{Served, Done, Ends, serve}
use Rattle.ro_journal.specs.declared.How.{How}
use Rattle.ro_exec.specs.declared.Cpu.{Cpu}
use Rattle.ro_exec.specs.Next.{Next, all_backed, next}
use Rattle.ro_plain.specs.Machine.{setup_of}
use Rattle.ro_simulation.specs.Guests.{locking_guest}
use Rattle.ro_rows.specs.Exit.{exit_file}
use Rattle.ro_replica.specs.Seen.{first_layout}

-- ---- instructions

-- each of the 48 instructions
abbrev pub instructions : List Instr
instructions =
    Lui 5 0x12345000
    ∷ Auipc 6 0xFEDCB000
    ∷ Jal 1 0xAAAAA
    ∷ Jalr 7 8 0xFFFFFAAA
    ∷ Branch Beq 9 10 2730
    ∷ Branch Bne 9 10 0xFFFFF554
    ∷ Branch Blt 9 10 1364
    ∷ Branch Bge 9 10 0xFFFFFAAA
    ∷ Branch Bltu 9 10 4094
    ∷ Branch Bgeu 9 10 0xFFFFF000
    ∷ Load Lb 11 12 1365
    ∷ Load Lh 11 12 0xFFFFFAAA
    ∷ Load Lw 11 12 2047
    ∷ Load Lbu 11 12 0xFFFFF800
    ∷ Load Lhu 11 12 1
    ∷ Store Sb 14 13 1365
    ∷ Store Sh 14 13 0xFFFFFAAA
    ∷ Store Sw 14 13 0xFFFFF800
    ∷ AluImm Add 15 16 0xFFFFFFFF
    ∷ AluImm Slt 15 16 0xFFFFF800
    ∷ AluImm Sltu 15 16 2047
    ∷ AluImm Xor 15 16 1365
    ∷ AluImm Or 15 16 0xFFFFFAAA
    ∷ AluImm And 15 16 7
    ∷ AluImm Sll 15 16 31
    ∷ AluImm Srl 15 16 21
    ∷ AluImm Sra 15 16 10
    ∷ Alu Add 17 18 19
    ∷ Alu Sub 17 18 19
    ∷ Alu Sll 17 18 19
    ∷ Alu Slt 17 18 19
    ∷ Alu Sltu 17 18 19
    ∷ Alu Xor 17 18 19
    ∷ Alu Srl 17 18 19
    ∷ Alu Sra 17 18 19
    ∷ Alu Or 17 18 19
    ∷ Alu And 17 18 19
    ∷ MulDiv Mul 29 30 31
    ∷ MulDiv Mulh 29 30 31
    ∷ MulDiv Mulhsu 29 30 31
    ∷ MulDiv Mulhu 29 30 31
    ∷ MulDiv Div 29 30 31
    ∷ MulDiv Divu 29 30 31
    ∷ MulDiv Rem 29 30 31
    ∷ MulDiv Remu 29 30 31
    ∷ Fence 0 0 0x031
    ∷ Atomic LoadReserved 5 6 0 0
    ∷ Atomic StoreConditional 7 6 5 0
    ∷ Atomic AmoSwap 8 10 9 3
    ∷ Atomic AmoAdd 10 6 5 0
    ∷ Atomic AmoXor 11 13 12 2
    ∷ Atomic AmoAnd 31 29 30 1
    ∷ Atomic AmoOr 1 3 2 0
    ∷ Atomic AmoMin 14 16 15 0
    ∷ Atomic AmoMax 17 19 18 0
    ∷ Atomic AmoMinu 20 22 21 0
    ∷ Atomic AmoMaxu 23 25 24 0
    ∷ Ecall
    ∷ Ebreak
    ∷ []

-- their words, as an assembler writes them
abbrev pub assembled : List ℕ
assembled = 0x123452B7 ∷ 0xFEDCB317 ∷ 0x2ABAA0EF ∷ 0xAAA403E7 ∷ 0x2AA485E3 ∷ 0xD4A49A63 ∷ 0x54A4CA63 ∷ 0xAAA4D5E3 ∷ 0x7EA4EFE3 ∷ 0x80A4F063 ∷ 0x55560583 ∷ 0xAAA61583 ∷ 0x7FF62583 ∷ 0x80064583 ∷ 0x00165583 ∷ 0x54D70AA3 ∷ 0xAAD71523 ∷ 0x80D72023 ∷ 0xFFF80793 ∷ 0x80082793 ∷ 0x7FF83793 ∷ 0x55584793 ∷ 0xAAA86793 ∷ 0x00787793 ∷ 0x01F81793 ∷ 0x01585793 ∷ 0x40A85793 ∷ 0x013908B3 ∷ 0x413908B3 ∷ 0x013918B3 ∷ 0x013928B3 ∷ 0x013938B3 ∷ 0x013948B3 ∷ 0x013958B3 ∷ 0x413958B3 ∷ 0x013968B3 ∷ 0x013978B3 ∷ 0x03FF0EB3 ∷ 0x03FF1EB3 ∷ 0x03FF2EB3 ∷ 0x03FF3EB3 ∷ 0x03FF4EB3 ∷ 0x03FF5EB3 ∷ 0x03FF6EB3 ∷ 0x03FF7EB3 ∷ 0x0310000F ∷ 0x100322AF ∷ 0x185323AF ∷ 0x0E95242F ∷ 0x0053252F ∷ 0x24C6A5AF ∷ 0x63EEAFAF ∷ 0x4021A0AF ∷ 0x80F8272F ∷ 0xA129A8AF ∷ 0xC15B2A2F ∷ 0xE18CABAF ∷ 0x00000073 ∷ 0x00100073 ∷ []

-- products, quotients and remainders, of signed and unsigned numbers
abbrev pub results : List ℕ
results =
    muldiv_of Mulh 0xFFFFFFFE 0xFFFFFFFD
    ∷ muldiv_of Mulhsu 0xFFFFFFFE 0xFFFFFFFD
    ∷ muldiv_of Mulhu 0xFFFFFFFE 0xFFFFFFFD
    ∷ muldiv_of Mul 0xFFFFFFFE 0xFFFFFFFD
    ∷ muldiv_of Mulhsu 0x7FFFFFFF 0x80000000
    ∷ muldiv_of Mulhsu 0x80000000 0x7FFFFFFF
    ∷ muldiv_of Div 0xFFFFFFF9 0x00000002
    ∷ muldiv_of Rem 0xFFFFFFF9 0x00000002
    ∷ muldiv_of Div 0x00000007 0xFFFFFFFE
    ∷ muldiv_of Rem 0x00000007 0xFFFFFFFE
    ∷ muldiv_of Divu 0xFFFFFFF9 0x00000002
    ∷ muldiv_of Remu 0xFFFFFFF9 0x00000002
    ∷ muldiv_of Div 0x00000007 0x00000000
    ∷ muldiv_of Divu 0x00000007 0x00000000
    ∷ muldiv_of Rem 0x00000007 0x00000000
    ∷ muldiv_of Remu 0x00000007 0x00000000
    ∷ muldiv_of Div 0x80000000 0xFFFFFFFF
    ∷ muldiv_of Rem 0x80000000 0xFFFFFFFF
    ∷ []

-- what atomic instructions make of a word and their operand
abbrev pub updates : List ℕ
updates =
    amo_of StoreConditional 0x00000005 0x00000009
    ∷ amo_of AmoSwap 0x00000005 0x00000009
    ∷ amo_of AmoAdd 0xFFFFFFFF 0x00000002
    ∷ amo_of AmoXor 0xF0F0F0F0 0xFFFFFFFF
    ∷ amo_of AmoAnd 0xF0F0F0F0 0x3C3C3C3C
    ∷ amo_of AmoOr 0xF0F0F0F0 0x3C3C3C3C
    ∷ amo_of AmoMin 0x80000000 0x7FFFFFFF
    ∷ amo_of AmoMin 0x7FFFFFFF 0x80000000
    ∷ amo_of AmoMax 0x80000000 0x7FFFFFFF
    ∷ amo_of AmoMax 0x7FFFFFFF 0x80000000
    ∷ amo_of AmoMinu 0x80000000 0x7FFFFFFF
    ∷ amo_of AmoMinu 0x7FFFFFFF 0x80000000
    ∷ amo_of AmoMaxu 0x80000000 0x7FFFFFFF
    ∷ amo_of AmoMaxu 0x7FFFFFFF 0x80000000
    ∷ []

-- ---- files

-- a file with some bytes changed, each given by its place and what it becomes
abbrev pub changed : List ℕ → List (ℕ × ℕ) → List ℕ
changed bytes [] = bytes
changed bytes (change ∷ changes) = changed (slice_set bytes change.0 change.1) changes

-- a program header
abbrev pub header : (kind offset address file_size memory_size flags : ℕ) → List ℕ
header kind offset address file_size memory_size flags =
    flat_map (bytes_of 4) (kind ∷ offset ∷ address ∷ address ∷ file_size ∷ memory_size ∷ flags ∷ 4096 ∷ [])

-- the file of 96 bytes with these two program headers behind it in place of its own
abbrev pub two_headers : (one other : List ℕ) → List ℕ
two_headers one other = changed exit_file ((28, 96) ∷ (44, 2) ∷ []) ++ one ++ other

-- names of functions, and where each stands, one at each word from 10000 on
abbrev pub standing : List (List ℕ × ℕ)
standing =
    (codes "pthread_create", 0x10000)
    ∷ (codes "pthread_exit", 0x10004)
    ∷ (codes "pthread_join", 0x10008)
    ∷ (codes "pthread_mutex_destroy", 0x1000C)
    ∷ (codes "pthread_mutex_init", 0x10010)
    ∷ (codes "pthread_mutex_lock", 0x10014)
    ∷ (codes "pthread_mutex_trylock", 0x10018)
    ∷ (codes "pthread_mutex_unlock", 0x1001C)
    ∷ (codes "pthread_self", 0x10020)
    ∷ (codes "pthread_cond_init", 0x10024)
    ∷ (codes "pthread_cond_destroy", 0x10028)
    ∷ (codes "pthread_cond_wait", 0x1002C)
    ∷ (codes "pthread_cond_signal", 0x10030)
    ∷ (codes "pthread_cond_broadcast", 0x10034)
    ∷ []

-- where the function with a name stands
abbrev pub address_named : List ℕ → Option ℕ
address_named name = option_map (λ (row : List ℕ × ℕ). row.1) (find (λ (row : List ℕ × ℕ). same_numbers row.0 name) standing)

-- the names, each ended by a zero byte
abbrev pub strings : List ℕ
strings = flat_map (λ (row : List ℕ × ℕ). row.0 ++ 0 ∷ []) standing

-- the symbol of a global function of section 1 whose name begins there
abbrev pub function : (name value : ℕ) → List ℕ
function name value = bytes_of 4 name ++ bytes_of 4 value ++ bytes_of 4 0 ++ 18 ∷ 0 ∷ 1 ∷ 0 ∷ []

-- the symbols of these functions
abbrev pub standing_symbols : List (List ℕ)
standing_symbols =
    function 0 0x10000 ∷ function 15 0x10004 ∷ function 28 0x10008 ∷ function 41 0x1000C ∷ function 63 0x10010 ∷ function 82 0x10014 ∷ function 101 0x10018 ∷ function 123 0x1001C ∷ function 144 0x10020 ∷ function 157 0x10024 ∷ function 175 0x10028 ∷ function 196 0x1002C ∷ function 214 0x10030 ∷ function 234 0x10034 ∷ []

-- ---- the kernel

-- threads 0 and 1 live, thread 2 has exited, and thread 3 was joined; thread 0 asks
abbrev pub four : List Life
four = Live ∷ Live ∷ Exited 5 ∷ Joined ∷ []

abbrev pub kernel_with : List Life → Owners → Kernel
kernel_with lives owners = record { lives = lives; owners = owners; waiters = []; heap_end = 0x11000; taken = 0; given = []; reserved = replicate 16 None }

-- the mutexes at 100E0, which thread 1 holds, and at 100E4, which thread 0 holds
abbrev pub two_held : Owners
two_held = (0x100E0, Some 1) ∷ (0x100E4, Some 0) ∷ []

-- 256 mutexes that nobody holds
abbrev pub unheld : ℕ → Owners
unheld count = map (λ address. (address, None)) (replicate count 0)

abbrev pub answer_in : Served → Option ℕ
answer_in (Done kernel effect) = effect.answer
answer_in served = None

-- what thread 0 is answered
abbrev pub answer : Kernel → Which → (a0 a1 a2 : ℕ) → Option ℕ
answer kernel which a0 a1 a2 =
    answer_in (serve (setup_of locking_guest) kernel 0 (record { which = which; a0 = a0; a1 = a1; a2 = a2; a3 = 0 }))

-- a system call
abbrev pub system : (number a0 a1 a2 a3 : ℕ) → Call
system number a0 a1 a2 a3 = record { which = System number; a0 = a0; a1 = a1; a2 = a2; a3 = a3 }

-- a mmap of so many bytes, which may be read (1) or read and written (3); private and anonymous is 0x22
abbrev pub mmap : (count protection flags : ℕ) → Call
mmap count protection flags = system 222 0 count protection flags

abbrev pub brk : (address : ℕ) → Call
brk address = system 214 address 0 0 0

-- the kernel behind a call
abbrev pub kernel_behind : Kernel → Served → Kernel
kernel_behind kernel (Done after effect) = after
kernel_behind kernel served = kernel

-- what comes of a call of thread 0
abbrev pub served_of : Kernel → Call → Served
served_of kernel call = serve (setup_of locking_guest) kernel 0 call

-- what thread 0 is answered to one call after another
abbrev pub answers_of : Kernel → List Call → List (Option ℕ)
answers_of kernel [] = []
answers_of kernel (call ∷ calls) = answer_in (served_of kernel call) ∷ answers_of (kernel_behind kernel (served_of kernel call)) calls

-- the kernel behind them
abbrev pub behind_calls : Kernel → List Call → Kernel
behind_calls kernel [] = kernel
behind_calls kernel (call ∷ calls) = behind_calls (kernel_behind kernel (served_of kernel call)) calls

-- the ranges that are permitted behind them
abbrev pub ranges_behind : List Call → List Range
ranges_behind calls = ranges_in (setup_of locking_guest) (behind_calls (kernel_with four []) calls)

-- one page that may be read and written, and one that may be read
abbrev pub two_mapped : List Call
two_mapped = mmap 1 3 0x22 ∷ mmap 1 1 0x22 ∷ []

-- how the program ends by a call, if it does
abbrev pub end_of : Served → Option How
end_of (Ends kernel how) = Some how
end_of served = None

abbrev pub function_call : Posix → (a0 : ℕ) → Call
function_call function a0 = record { which = Function function; a0 = a0; a1 = 7; a2 = 7; a3 = 7 }

-- the functions whose first argument is the word of a mutex or of a condition variable
abbrev pub on_words : List Posix
on_words = MutexInit ∷ MutexDestroy ∷ Lock ∷ TryLock ∷ Unlock ∷ ConditionInit ∷ ConditionDestroy ∷ Wait ∷ Signal ∷ Broadcast ∷ []

-- what a thread is answered that asks for its number
abbrev pub number_of_thread : (thread : ℕ) → Option ℕ
number_of_thread thread =
    answer_in (serve (setup_of locking_guest) (kernel_with (replicate 16 Live) []) thread (function_call ThreadSelf 7))

-- ---- threads

-- a thread at a place, of registers 0
abbrev pub cpu_at : ℕ → Cpu
cpu_at pc = record { registers = replicate 31 0; pc = pc }

-- what it does next there, where one word stands at 10000 and zeros elsewhere
abbrev pub next_of : (word pc : ℕ) → Next
next_of word pc = next (first_layout locking_guest.image) all_backed (stored (λ a. 0) 0x10000 (bytes_of 4 word)) (cpu_at pc)
