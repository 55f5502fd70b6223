-- A guest of two threads under one mutex, and what rows ask of it.
use Rattle.std.specs.Prelude.{ℕ, true, List, [], ◌∷◌, ◌++◌, Option, Some, None, replicate}
use Rattle.std.specs.List.{flat_map}
use Rattle.std.specs.Option.{option_map, option_map_or}
use Rattle.ro_event.specs.declared.calls.Which.{Which}
use Rattle.ro_event.specs.declared.calls.Call.{Call}
use Rattle.ro_event.specs.declared.table.CallTable.{CallTable}
use Rattle.ro_pages.specs.Bytes.{bytes_of}
use Rattle.ro_image.specs.Image.{ranges_with}
use Rattle.ro_kernel.specs.Kernel.{Kernel, opening_kernel}
use Rattle.ro_plain.specs.Machine.{Program, Machine, opening, step, run}
use Rattle.ro_orders.specs.Turns.{Turn, turn_of}
use Rattle.ro_orders.specs.Choices.{in_table}
use Rattle.ro_orders.specs.Copies.{Copy, opening_copy}

-- Thread 0 locks the mutex at 100B4 and unlocks it, makes thread 1, and then each of the two locks it, stores its own number
-- at 100B8, unlocks it and traps.
abbrev pub guest_with : CallTable → Program
guest_with calls = record {
  image = record {
    pieces = record {
      place = 0x10054;
      bytes = flat_map (λ word. bytes_of 4 word)
          (0x000101B7 ∷ 0x0B418513 ∷ 0x04C000EF ∷ 0x0B418513 ∷ 0x048000EF ∷ 0x0B018513 ∷ 0x09018613 ∷ 0x0B418693 ∷ 0x030000EF ∷ 0x0B418513 ∷ 0x02C000EF ∷ 0x0A418C23 ∷ 0x0B418513 ∷ 0x024000EF ∷ 0x00100073 ∷ 0x018000EF ∷ 0x0A418C23 ∷ 0x0B418513 ∷ 0x010000EF ∷ 0x00100073 ∷ 0x00008067 ∷ 0x00008067 ∷ 0x00008067 ∷ 0x00000000 ∷ 0x00000000 ∷ 0x00000000 ∷ []);
    } ∷ [];
    ranges = ranges_with (record { start = 0x10000; length = 188; read = true; write = true; execute = true } ∷ []) 0x11000;
    calls = calls;
    entry = 0x10054;
    heap = 0x11000;
  };
  input = [];
}

-- create, lock and unlock
abbrev pub two_locks : Program
two_locks = guest_with (record { addresses = Some 0x100A4 ∷ None ∷ None ∷ None ∷ None ∷ None ∷ Some 0x100A8 ∷ None ∷ Some 0x100AC ∷ [] })

-- a trylock where the lock was
abbrev pub two_trylocks : Program
two_trylocks = guest_with (record { addresses = Some 0x100A4 ∷ None ∷ None ∷ None ∷ None ∷ None ∷ None ∷ Some 0x100A8 ∷ Some 0x100AC ∷ [] })

-- a wait where the lock was
abbrev pub two_waits : Program
two_waits = guest_with (record { addresses = Some 0x100A4 ∷ None ∷ None ∷ None ∷ None ∷ None ∷ None ∷ None ∷ Some 0x100AC ∷ None ∷ None ∷ Some 0x100A8 ∷ [] })

abbrev pub its_mutex : ℕ
its_mutex = 0x100B4

-- thread 0 gets the mutex a second time, and then thread 1 gets it
abbrev pub first_then_second : List ℕ
first_then_second = replicate 19 0 ++ replicate 6 1

-- the same, but thread 1 comes to its lock as soon as it is made
abbrev pub in_between : List ℕ
in_between = replicate 12 0 ++ 1 ∷ replicate 7 0 ++ replicate 5 1

-- thread 1 gets it first
abbrev pub second_then_first : List ℕ
second_then_first = replicate 12 0 ++ replicate 6 1 ++ replicate 7 0

-- what each of these steps takes part in
abbrev pub turns_from : Machine → List ℕ → List Turn
turns_from machine [] = []
turns_from machine (thread ∷ threads) =
    turn_of two_locks in_table machine thread ∷ option_map_or (λ after. turns_from after threads) (step two_locks machine thread) []

-- the byte that both threads store, behind these steps
abbrev pub byte_after : List ℕ → Option ℕ
byte_after threads = option_map (λ machine. machine.memory 0x100B8) (run two_locks (opening two_locks) threads)

-- ---- calls on the mutex

-- the mutex stands in the table, with this owner or none
abbrev pub kernel_with : Option ℕ → Kernel
kernel_with owner = record (opening_kernel 0x11000) { owners = (its_mutex, owner) ∷ [] }

abbrev pub call_on : Which → (address : ℕ) → Call
call_on which address = record { which = which; a0 = address; a1 = 0; a2 = 0; a3 = 0 }

-- ---- copies

-- a copy that took these steps
abbrev pub copy_of : List ℕ → Copy
copy_of taken = record (opening_copy two_locks) { taken = taken }
