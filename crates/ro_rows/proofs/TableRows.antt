-- Tables, by computation.
use Rattle.std.specs.Prelude.{◌≡◌, ◌-◌, ◌^◌, true, false, [], ◌∷◌, ◌++◌, length, map, Some, None, Ok, Err, replicate}
use Rattle.std.proofs.Common.{refl}
use Rattle.ro_decode.specs.Table.{instruction_of, word_of}
use Rattle.ro_alu.specs.Results.{muldiv_of, amo_of}
use Rattle.ro_event.specs.declared.calls.Which.TheVariants.{System, Function}
use Rattle.ro_event.specs.declared.functions.Function.TheVariants.{Create, Join, Exit, ThreadSelf, MutexInit, MutexDestroy, Lock, TryLock, Unlock, ConditionInit, ConditionDestroy, Wait, Signal, Broadcast}
use Rattle.ro_event.specs.declared.stops.Stop.TheVariants.{Trap}
use Rattle.ro_event.specs.Traps.{number_of, causes}
use Rattle.ro_event.specs.Functions.{names}
use Rattle.ro_event.specs.Table.{call_at}
use Rattle.ro_region.specs.declared.Kind.TheVariants.{Read, Write, Execute}
use Rattle.ro_region.specs.Permission.{permits_of}
use Rattle.ro_elf.specs.Elf.{bad_headers}
use Rattle.ro_elf.specs.Numbers.{half_in, word_in}
use Rattle.ro_elf.specs.Segments.{header_in, headers_of}
use Rattle.ro_sym.specs.Sections.{section_in}
use Rattle.ro_sym.specs.Calls.{table_with, calls_of}
use Rattle.ro_sym.specs.Symbols.{symbol_in}
use Rattle.ro_image.specs.Executable.{bad_code}
use Rattle.ro_settings.specs.Ranges.{default_settings}
use Rattle.ro_exec.specs.Meaning.{meaning}
use Rattle.ro_exec.specs.Next.{Stands, fetch_stop, instruction_stop, next}
use Rattle.ro_exec.specs.Threads.{first_cpu, made_cpu}
use Rattle.ro_journal.specs.declared.How.TheVariants.{Exit as ExitHow}
use Rattle.ro_kernel.specs.declared.Life.TheVariants.{Live}
use Rattle.ro_kernel.specs.Serve.{serve, payload_of}
use Rattle.ro_simulation.specs.Guests.{exit_guest}
use Rattle.ro_rows.specs.Exit.{exit_file}
use Rattle.ro_rows.specs.Tables.{instructions, assembled, results, updates, changed, header, two_headers, strings, function, standing_symbols, address_named, four, kernel_with, two_held, unheld, answer, answer_in, mmap, brk, system, kernel_behind, served_of, answers_of, ranges_behind, two_mapped, end_of, function_call, on_words, number_of_thread, next_of}

-- ---- instructions_row

pub instructions-count : length instructions ≡ 59
unfolding instruction_of word_of
instructions-count = refl

pub instructions-words : map word_of instructions ≡ assembled
unfolding instruction_of word_of
instructions-words = refl

pub instructions-back : map instruction_of assembled ≡ map Some instructions
unfolding instruction_of word_of
instructions-back = refl

-- ---- results_row

pub results-values : results ≡ 0x00000000 ∷ 0xFFFFFFFE ∷ 0xFFFFFFFB ∷ 0x00000006 ∷ 0x3FFFFFFF ∷ 0xC0000000 ∷ 0xFFFFFFFD ∷ 0xFFFFFFFF ∷ 0xFFFFFFFD ∷ 0x00000001 ∷ 0x7FFFFFFC ∷ 0x00000001 ∷ 0xFFFFFFFF ∷ 0xFFFFFFFF ∷ 0x00000007 ∷ 0x00000007 ∷ 0x80000000 ∷ 0x00000000 ∷ []
unfolding muldiv_of
results-values = refl

pub results-atomic : updates ≡ 0x00000009 ∷ 0x00000009 ∷ 0x00000001 ∷ 0x0F0F0F0F ∷ 0x30303030 ∷ 0xFCFCFCFC ∷ 0x80000000 ∷ 0x80000000 ∷ 0x7FFFFFFF ∷ 0x7FFFFFFF ∷ 0x7FFFFFFF ∷ 0x7FFFFFFF ∷ 0x80000000 ∷ 0x80000000 ∷ []
unfolding amo_of
results-atomic = refl

-- ---- checks_row

pub checks-headers : map bad_code ((0 ∷ []) ∷ changed exit_file ((0, 0x7E) ∷ (4, 2) ∷ []) ∷ changed exit_file ((4, 2) ∷ (5, 2) ∷ []) ∷ changed exit_file ((5, 2) ∷ (6, 0) ∷ []) ∷ changed exit_file ((20, 2) ∷ (16, 3) ∷ []) ∷ changed exit_file ((16, 3) ∷ (18, 0xF2) ∷ []) ∷ changed exit_file ((18, 0xF2) ∷ (36, 1) ∷ []) ∷ changed exit_file ((36, 1) ∷ (44, 0) ∷ []) ∷ changed exit_file ((42, 31) ∷ (28, 0x41) ∷ []) ∷ changed exit_file ((44, 2) ∷ (52, 2) ∷ []) ∷ []) ≡ Some 1 ∷ Some 2 ∷ Some 3 ∷ Some 4 ∷ Some 5 ∷ Some 6 ∷ Some 7 ∷ Some 8 ∷ Some 9 ∷ Some 10 ∷ []
unfolding bad_headers half_in word_in header_in headers_of section_in calls_of symbol_in
checks-headers = refl

pub checks-segments : map bad_code (two_headers (header 1 0 0x10000 97 96 5) (header 2 0 0 0 0 0) ∷ two_headers (header 1 0 0x1000 96 96 5) (header 1 0 0x20000 97 96 5) ∷ two_headers (header 1 0 0x1000 96 96 5) (header 1 0 0x20000 96 96 5) ∷ two_headers (header 1 0 0x20000 96 96 5) (header 1 0 0x30000 0 0x400001 6) ∷ changed exit_file ((32, 1) ∷ (48, 1) ∷ (72, 1) ∷ (74, 0x40) ∷ []) ∷ changed exit_file ((32, 1) ∷ (48, 1) ∷ []) ∷ []) ≡ Some 11 ∷ Some 12 ∷ Some 13 ∷ Some 14 ∷ Some 15 ∷ Some 16 ∷ []
unfolding bad_headers half_in word_in header_in headers_of section_in calls_of symbol_in
checks-segments = refl

pub checks-flags : map bad_code (changed exit_file ((36, 1) ∷ []) ∷ changed exit_file ((36, 2) ∷ []) ∷ changed exit_file ((36, 4) ∷ []) ∷ changed exit_file ((36, 8) ∷ []) ∷ changed exit_file ((36, 0xF0) ∷ []) ∷ []) ≡ Some 8 ∷ Some 8 ∷ Some 8 ∷ Some 8 ∷ None ∷ []
unfolding bad_headers half_in word_in header_in headers_of section_in calls_of symbol_in
checks-flags = refl

pub checks-sizes : map bad_code (changed exit_file ((72, 0) ∷ (74, 0x40) ∷ []) ∷ changed exit_file ((72, 1) ∷ (74, 0x40) ∷ []) ∷ two_headers (header 1 0 0x10000 96 96 5) (header 1 0 0x20000 0 0x3FFFA0 6) ∷ two_headers (header 1 0 0x10000 96 96 5) (header 1 0 0x20000 0 0x3FFFA1 6) ∷ []) ≡ None ∷ Some 15 ∷ None ∷ Some 15 ∷ []
unfolding bad_headers half_in word_in header_in headers_of section_in calls_of symbol_in
checks-sizes = refl

pub checks-symbols : map (λ symbols. table_with strings (map symbol_in symbols)) ((function 0 0x10000 ∷ function 15 0x10000 ∷ function 257 0x10004 ∷ []) ∷ (function 0 0x10000 ∷ function 15 0x10000 ∷ []) ∷ (function 0 0x10000 ∷ function 0 0x10004 ∷ []) ∷ []) ≡ Err 16 ∷ Err 17 ∷ Err 17 ∷ []
unfolding bad_headers half_in word_in header_in headers_of section_in calls_of symbol_in
checks-symbols = refl

-- ---- names_row

pub names-table : table_with strings (map symbol_in standing_symbols) ≡ Ok (record { addresses = map address_named names })
unfolding call_at symbol_in half_in word_in
names-table = refl

pub names-calls : map (call_at (record { addresses = Some 0x10000 ∷ Some 0x10008 ∷ Some 0x10004 ∷ Some 0x10020 ∷ Some 0x10010 ∷ Some 0x1000C ∷ Some 0x10014 ∷ Some 0x10018 ∷ Some 0x1001C ∷ Some 0x10024 ∷ Some 0x10028 ∷ Some 0x1002C ∷ Some 0x10030 ∷ Some 0x10034 ∷ [] })) (0x10000 ∷ 0x10004 ∷ 0x10008 ∷ 0x1000C ∷ 0x10010 ∷ 0x10014 ∷ 0x10018 ∷ 0x1001C ∷ 0x10020 ∷ 0x10024 ∷ 0x10028 ∷ 0x1002C ∷ 0x10030 ∷ 0x10034 ∷ 0x10038 ∷ []) ≡ Some (Function Create) ∷ Some (Function Exit) ∷ Some (Function Join) ∷ Some (Function MutexDestroy) ∷ Some (Function MutexInit) ∷ Some (Function Lock) ∷ Some (Function TryLock) ∷ Some (Function Unlock) ∷ Some (Function ThreadSelf) ∷ Some (Function ConditionInit) ∷ Some (Function ConditionDestroy) ∷ Some (Function Wait) ∷ Some (Function Signal) ∷ Some (Function Broadcast) ∷ None ∷ []
unfolding call_at symbol_in half_in word_in
names-calls = refl

-- ---- settings_row

pub settings-replicas : default_settings.replicas ≡ 3
settings-replicas = refl

pub settings-drivers : default_settings.drivers ≡ 3
settings-drivers = refl

pub settings-watchdog : default_settings.watchdog ≡ 10000
settings-watchdog = refl

pub settings-quantum : default_settings.quantum ≡ 4096
settings-quantum = refl

pub settings-limit : default_settings.limit ≡ 1000000000
settings-limit = refl

-- ---- errors_row

pub errors-system : answer (kernel_with four []) (System 63) 1 0x100E0 1 ∷ answer (kernel_with four []) (System 64) 0 0x100E0 1 ∷ answer (kernel_with four []) (System 63) 0 0 1 ∷ answer (kernel_with four []) (System 64) 2 0 1 ∷ answer (kernel_with four []) (System 57) 0 0 0 ∷ [] ≡ Some (2 ^ 32 - 9) ∷ Some (2 ^ 32 - 9) ∷ Some (2 ^ 32 - 14) ∷ Some (2 ^ 32 - 14) ∷ Some (2 ^ 32 - 38) ∷ []
unfolding serve permits_of payload_of
errors-system = refl

pub errors-create : answer (kernel_with four []) (Function Create) 0x100E0 1 0x10098 ∷ answer (kernel_with four []) (Function Create) 0x100E0 0 0x10099 ∷ answer (kernel_with four []) (Function Create) 0 0 0x10098 ∷ answer (kernel_with (replicate 16 Live) []) (Function Create) 0x100E0 0 0x10098 ∷ answer (kernel_with (replicate 15 Live) []) (Function Create) 0x100E0 0 0x10098 ∷ [] ≡ Some 22 ∷ Some 22 ∷ Some 14 ∷ Some 11 ∷ Some 0 ∷ []
unfolding serve permits_of payload_of
errors-create = refl

pub errors-join : answer (kernel_with four []) (Function Join) 4 0 0 ∷ answer (kernel_with four []) (Function Join) 0 0 0 ∷ answer (kernel_with four []) (Function Join) 3 0 0 ∷ answer (kernel_with four []) (Function Join) 2 2 0 ∷ answer (kernel_with four []) (Function Join) 1 0 0 ∷ answer (kernel_with four []) (Function Join) 2 0 0 ∷ [] ≡ Some 3 ∷ Some 35 ∷ Some 3 ∷ Some 14 ∷ None ∷ Some 0 ∷ []
unfolding serve permits_of payload_of
errors-join = refl

pub errors-mutex : answer (kernel_with four two_held) (Function Lock) 0 0 0 ∷ answer (kernel_with four two_held) (Function Lock) 0x100E4 0 0 ∷ answer (kernel_with four two_held) (Function Lock) 0x100E0 0 0 ∷ answer (kernel_with four two_held) (Function TryLock) 0x100E0 0 0 ∷ answer (kernel_with four two_held) (Function TryLock) 0x100E4 0 0 ∷ answer (kernel_with four two_held) (Function Unlock) 0x100E0 0 0 ∷ answer (kernel_with four two_held) (Function Unlock) 0x100E8 0 0 ∷ answer (kernel_with four two_held) (Function Unlock) 0x100E4 0 0 ∷ [] ≡ Some 14 ∷ Some 35 ∷ None ∷ Some 16 ∷ Some 16 ∷ Some 1 ∷ Some 1 ∷ Some 0 ∷ []
unfolding serve permits_of payload_of
errors-mutex = refl

pub errors-init : answer (kernel_with four two_held) (Function MutexInit) 0 0 0 ∷ answer (kernel_with four two_held) (Function MutexInit) 0x100E4 0 0 ∷ answer (kernel_with four two_held) (Function MutexInit) 0x100E0 0 0 ∷ answer (kernel_with four two_held) (Function MutexInit) 0x100E8 0 0 ∷ answer (kernel_with four (unheld 256)) (Function MutexInit) 0 0 0 ∷ answer (kernel_with four (unheld 256)) (Function MutexInit) 0x100E0 0 0 ∷ answer (kernel_with four (unheld 255)) (Function MutexInit) 0x100E0 0 0 ∷ [] ≡ Some 14 ∷ Some 0 ∷ Some 0 ∷ Some 0 ∷ Some 14 ∷ Some 11 ∷ Some 0 ∷ []
unfolding serve permits_of payload_of
errors-init = refl

pub errors-condition : answer (kernel_with four two_held) (Function ConditionInit) 0 0 0 ∷ answer (kernel_with four two_held) (Function ConditionDestroy) 0 0 0 ∷ answer (kernel_with four two_held) (Function Wait) 0 0x100E4 0 ∷ answer (kernel_with four two_held) (Function Wait) 0x100E8 0 0 ∷ answer (kernel_with four two_held) (Function Wait) 0x100E8 0x100E0 0 ∷ answer (kernel_with four two_held) (Function Wait) 0x100E8 0x100EC 0 ∷ answer (kernel_with four two_held) (Function Wait) 0x100E8 0x100E4 0 ∷ answer (kernel_with four two_held) (Function Signal) 0 0 0 ∷ answer (kernel_with four two_held) (Function Broadcast) 0 0 0 ∷ answer (kernel_with four two_held) (Function Signal) 0x100E8 0 0 ∷ answer (kernel_with four two_held) (Function Broadcast) 0x100E8 0 0 ∷ [] ≡ Some 14 ∷ Some 14 ∷ Some 14 ∷ Some 14 ∷ Some 1 ∷ Some 1 ∷ None ∷ Some 14 ∷ Some 14 ∷ Some 0 ∷ Some 0 ∷ []
unfolding serve permits_of payload_of
errors-condition = refl

pub errors-full : answer (kernel_with four (unheld 256)) (Function Lock) 0x100E0 0 0 ∷ answer (kernel_with four (unheld 256)) (Function TryLock) 0x100E0 0 0 ∷ answer (kernel_with four (unheld 255)) (Function Lock) 0x100E0 0 0 ∷ [] ≡ Some 11 ∷ Some 11 ∷ Some 0 ∷ []
unfolding serve permits_of payload_of
errors-full = refl

-- ---- traps_row

pub traps-traps : next_of 0 0x10002 ∷ next_of 0 0x70000000 ∷ next_of 0 0x10000 ∷ next_of 0x0020006F 0x10000 ∷ next_of 0x00102283 0x10000 ∷ next_of 0x00002283 0x10000 ∷ next_of 0x00002123 0x10000 ∷ next_of 0x00002023 0x10000 ∷ next_of 0x00100073 0x10000 ∷ [] ≡ map (λ cause. Stands (Trap cause)) causes
unfolding next fetch_stop instruction_stop instruction_of call_at permits_of meaning
traps-traps = refl

pub traps-numbers : map number_of causes ≡ 1 ∷ 2 ∷ 3 ∷ 4 ∷ 5 ∷ 6 ∷ 7 ∷ 8 ∷ 9 ∷ []
traps-numbers = refl

-- ---- threads_row

pub threads-first : first_cpu 0x10054 ≡ record { registers = 0 ∷ 0x7000FFF0 ∷ replicate 29 0; pc = 0x10054 }
unfolding first_cpu made_cpu permits_of
threads-first = refl

pub threads-made : made_cpu (record { start = 0x10098; argument = 7; creator = 1 }) (record { registers = 1 ∷ 2 ∷ 0x12345 ∷ replicate 28 9; pc = 0x10060 }) 2 ≡ record { registers = 0x7FFFFFF0 ∷ 0x7004FFF0 ∷ 0x12345 ∷ 2 ∷ replicate 5 0 ++ 7 ∷ replicate 21 0; pc = 0x10098 }
unfolding first_cpu made_cpu permits_of
threads-made = refl

pub threads-stacks : map (λ a. permits_of exit_guest.image.ranges Write a 1) (0x6FFFFFFF ∷ 0x70000000 ∷ 0x7000FFFF ∷ 0x70010000 ∷ 0x701E0000 ∷ 0x701EFFFF ∷ 0x701F0000 ∷ 0x70200000 ∷ []) ≡ false ∷ true ∷ true ∷ false ∷ true ∷ true ∷ false ∷ false ∷ []
unfolding first_cpu made_cpu permits_of
threads-stacks = refl

pub threads-heap : map (λ a. permits_of exit_guest.image.ranges Write a 1) (0x10FFF ∷ 0x11000 ∷ 0x110FFF ∷ 0x111000 ∷ []) ≡ false ∷ true ∷ true ∷ false ∷ []
unfolding first_cpu made_cpu permits_of
threads-heap = refl

pub threads-none-executes : permits_of exit_guest.image.ranges Execute 0x11000 4 ∷ permits_of exit_guest.image.ranges Execute 0x70000000 4 ∷ permits_of exit_guest.image.ranges Write 0x10000 4 ∷ [] ≡ false ∷ false ∷ false ∷ []
unfolding first_cpu made_cpu permits_of
threads-none-executes = refl

-- ---- mmap_row

pub mmap-errors : map (λ call. answer_in (served_of (kernel_with four []) call)) (mmap 1 3 0x21 ∷ mmap 1 3 0x02 ∷ mmap 1 3 0x32 ∷ mmap 1 0 0x22 ∷ mmap 1 2 0x22 ∷ mmap 1 7 0x22 ∷ mmap 0 3 0x22 ∷ mmap 0x1000001 3 0x22 ∷ mmap 0xFFFFFFFF 3 0x22 ∷ []) ≡ replicate 7 (Some (2 ^ 32 - 22)) ++ replicate 2 (Some (2 ^ 32 - 12))
unfolding serve permits_of payload_of
mmap-errors = refl

pub mmap-given : answers_of (kernel_with four []) (mmap 1 3 0x22 ∷ mmap 0x1001 1 0x22 ∷ mmap 0x1000 3 0x22 ∷ mmap 0xFFC001 3 0x22 ∷ mmap 0xFFC000 3 0x22 ∷ mmap 1 3 0x22 ∷ []) ≡ Some 0x50000000 ∷ Some 0x50001000 ∷ Some 0x50003000 ∷ Some (2 ^ 32 - 12) ∷ Some 0x50004000 ∷ Some (2 ^ 32 - 12) ∷ []
unfolding serve permits_of payload_of
mmap-given = refl

pub mmap-all : answers_of (kernel_with four []) (mmap 0x1000000 3 0x22 ∷ mmap 1 3 0x22 ∷ []) ≡ Some 0x50000000 ∷ Some (2 ^ 32 - 12) ∷ []
unfolding serve permits_of payload_of
mmap-all = refl

pub mmap-before : map (λ a. permits_of (ranges_behind []) Read a 1) (0x50000000 ∷ 0x50001000 ∷ []) ≡ false ∷ false ∷ []
unfolding serve permits_of payload_of
mmap-before = refl

pub mmap-reads : map (λ a. permits_of (ranges_behind two_mapped) Read a 1) (0x4FFFFFFF ∷ 0x50000000 ∷ 0x50000FFF ∷ 0x50001000 ∷ 0x50001FFF ∷ 0x50002000 ∷ []) ≡ false ∷ true ∷ true ∷ true ∷ true ∷ false ∷ []
unfolding serve permits_of payload_of
mmap-reads = refl

pub mmap-writes : map (λ a. permits_of (ranges_behind two_mapped) Write a 1) (0x4FFFFFFF ∷ 0x50000000 ∷ 0x50000FFF ∷ 0x50001000 ∷ 0x50001FFF ∷ 0x50002000 ∷ []) ≡ false ∷ true ∷ true ∷ false ∷ false ∷ false ∷ []
unfolding serve permits_of payload_of
mmap-writes = refl

pub mmap-none-executes : map (λ a. permits_of (ranges_behind two_mapped) Execute a 4) (0x50000000 ∷ 0x50001000 ∷ []) ≡ false ∷ false ∷ []
unfolding serve permits_of payload_of
mmap-none-executes = refl

pub mmap-still : permits_of (ranges_behind two_mapped) Write 0x11000 4 ≡ true
unfolding serve permits_of payload_of
mmap-still = refl

-- ---- brk_row

pub brk-low : answers_of (kernel_with four []) (brk 0 ∷ brk 0x12000 ∷ brk 0x10FFF ∷ brk 0x11000 ∷ brk 0 ∷ []) ≡ Some 0x11000 ∷ Some 0x12000 ∷ Some 0x12000 ∷ Some 0x11000 ∷ Some 0x11000 ∷ []
unfolding serve permits_of payload_of
brk-low = refl

pub brk-high : answers_of (kernel_with four []) (brk 0x12001 ∷ brk 0x111001 ∷ brk 0x111000 ∷ brk 0xFFFFFFFF ∷ brk 0 ∷ []) ≡ Some 0x12001 ∷ Some 0x12001 ∷ Some 0x111000 ∷ Some 0x111000 ∷ Some 0x111000 ∷ []
unfolding serve permits_of payload_of
brk-high = refl

-- ---- ends_row

pub ends-exit : map (λ a0. end_of (served_of (kernel_with four []) (system 93 a0 1 2 3))) (0 ∷ 255 ∷ 256 ∷ 0x1FF ∷ 0x12345 ∷ 0xFFFFFFFF ∷ []) ≡ Some (ExitHow 0) ∷ Some (ExitHow 255) ∷ Some (ExitHow 0) ∷ Some (ExitHow 255) ∷ Some (ExitHow 69) ∷ Some (ExitHow 255) ∷ []
unfolding serve permits_of payload_of
ends-exit = refl

pub ends-exit-group : map (λ a0. end_of (served_of (kernel_with four []) (system 94 a0 1 2 3))) (0 ∷ 255 ∷ 256 ∷ 0x1FF ∷ 0x12345 ∷ 0xFFFFFFFF ∷ []) ≡ Some (ExitHow 0) ∷ Some (ExitHow 255) ∷ Some (ExitHow 0) ∷ Some (ExitHow 255) ∷ Some (ExitHow 69) ∷ Some (ExitHow 255) ∷ []
unfolding serve permits_of payload_of
ends-exit-group = refl

pub ends-others : map (λ number. end_of (served_of (kernel_with four []) (system number 0 0 0 0))) (57 ∷ 63 ∷ 64 ∷ 92 ∷ 95 ∷ 214 ∷ 222 ∷ []) ≡ replicate 7 None
unfolding serve permits_of payload_of
ends-others = refl

-- ---- words_of_calls_row

pub words-of-calls-number : map number_of_thread (0 ∷ 1 ∷ 15 ∷ []) ≡ Some 0 ∷ Some 1 ∷ Some 15 ∷ []
unfolding serve permits_of payload_of
words-of-calls-number = refl

pub words-of-calls-destroy : map (λ a0. answer (kernel_with four two_held) (Function MutexDestroy) a0 0 0) (0x100E0 ∷ 0x100E4 ∷ 0x100E8 ∷ 0 ∷ []) ≡ Some 0 ∷ Some 0 ∷ Some 0 ∷ Some 14 ∷ []
unfolding serve permits_of payload_of
words-of-calls-destroy = refl

pub words-of-calls-keeps : map (λ a0. (kernel_behind (kernel_with four []) (served_of (kernel_with four two_held) (function_call MutexDestroy a0))).owners) (0x100E0 ∷ 0x100E4 ∷ 0x100E8 ∷ 0 ∷ []) ≡ replicate 4 two_held
unfolding serve permits_of payload_of
words-of-calls-keeps = refl

pub words-of-calls-misaligned : map (λ function. answer (kernel_with four two_held) (Function function) 0x100E5 0x100E4 0) on_words ≡ replicate 10 (Some 14)
unfolding serve permits_of payload_of
words-of-calls-misaligned = refl

pub words-of-calls-unwritable : map (λ function. answer (kernel_with four two_held) (Function function) 0x20000000 0x100E4 0) on_words ≡ replicate 10 (Some 14)
unfolding serve permits_of payload_of
words-of-calls-unwritable = refl
