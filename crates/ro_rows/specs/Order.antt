-- What the order of steps, and the bytes that they access, are asked of.
use Rattle.std.specs.Prelude.{ℕ, ◌+◌, List, [], ◌∷◌, ◌++◌, replicate, zero, suc, true, false, Option, Some, None}
use Rattle.ro_event.specs.declared.table.CallTable.{CallTable}
use Rattle.ro_pages.specs.Bytes.{Span}
use Rattle.ro_plain.specs.Machine.{Program}
use Rattle.ro_plain.specs.Order.{Sync, sync_at}
use Rattle.ro_simulation.specs.Guests.{no_calls, guest}

-- the execution of the locking guest that the votes of one driver name: thread 0 makes both threads and asks to join the
-- first; that one locks, writes, unlocks and exits and is joined; then the second one likewise; thread 0 exits
abbrev pub locking_plan : List ℕ
locking_plan = replicate 14 0 ++ replicate 16 1 ++ replicate 3 0 ++ replicate 16 2 ++ replicate 4 0

-- what the steps of so many places from one on mean for the order
abbrev pub syncs_from : Program → List ℕ → (place count : ℕ) → List Sync
syncs_from program threads place zero = []
syncs_from program threads place (suc count) = sync_at program threads place ∷ syncs_from program threads (place + 1) count

-- so many bytes from a place on
abbrev pub bytes : ℕ → ℕ → Span
bytes place count = record { place = place; count = count }

-- no bytes
abbrev pub none : Span
none = bytes 0 0

-- ---- a guest of many calls

-- it tries a mutex twice and unlocks it twice, reads, writes to no output, loads, stores, joins nothing, makes a thread that
-- exits at once, joins it, and traps
abbrev pub calls_guest : Program
calls_guest = record (guest (record { addresses = Some 0x100C8 ∷ Some 0x100CC ∷ Some 0x100D0 ∷ None ∷ None ∷ None ∷ None ∷ Some 0x100D4 ∷ Some 0x100D8 ∷ [] }) true 240
    (0x00010437 ∷ 0x0E440513 ∷ 0x078000EF ∷ 0x0E440513 ∷ 0x070000EF ∷ 0x0E440513 ∷ 0x06C000EF ∷ 0x0E440513 ∷ 0x064000EF ∷ 0x00000513 ∷ 0x0E840593 ∷ 0x00300613 ∷ 0x03F00893 ∷ 0x00000073 ∷ 0x00300513 ∷ 0x04000893 ∷ 0x00000073 ∷ 0x0005A283 ∷ 0x00559223 ∷ 0x00900513 ∷ 0x00000593 ∷ 0x024000EF ∷ 0x0DC40513 ∷ 0x0D040613 ∷ 0x014000EF ∷ 0x00100513 ∷ 0x0E040593 ∷ 0x00C000EF ∷ 0x00100073 ∷ 0x00008067 ∷ 0x00008067 ∷ 0x00008067 ∷ 0x00008067 ∷ 0x00008067 ∷ 0x00000000 ∷ 0x00000000 ∷ 0x00000000 ∷ 0x00000000 ∷ 0x00000000 ∷ [])) { input = 72 ∷ 73 ∷ [] }

abbrev pub calls_plan : List ℕ
calls_plan = replicate 31 0 ++ 1 ∷ replicate 5 0

-- ---- two threads that store to one byte

-- the addresses of create, join, lock and unlock
abbrev pub table_of : (create join lock unlock : Option ℕ) → CallTable
table_of create join lock unlock = record { addresses = create ∷ join ∷ None ∷ None ∷ None ∷ None ∷ lock ∷ None ∷ unlock ∷ [] }

-- thread 0 makes thread 1 and stores, and so does thread 1
abbrev pub racing_guest : Program
racing_guest = guest (table_of (Some 0x10074) None None None) true 128
    (0x000101B7 ∷ 0x07818513 ∷ 0x06C18613 ∷ 0x014000EF ∷ 0x06018E23 ∷ 0x00100073 ∷ 0x06018E23 ∷ 0x00100073 ∷ 0x00008067 ∷ 0x00000000 ∷ 0x00000000 ∷ [])

-- thread 0 stores last of its steps, and then thread 1 does
abbrev pub racing_plan : List ℕ
racing_plan = replicate 6 0 ++ 1 ∷ []

-- thread 0 stores, and then makes thread 1, which stores
abbrev pub created_guest : Program
created_guest = guest (table_of (Some 0x10074) None None None) true 128
    (0x000101B7 ∷ 0x06018E23 ∷ 0x07818513 ∷ 0x06C18613 ∷ 0x010000EF ∷ 0x00100073 ∷ 0x06018E23 ∷ 0x00100073 ∷ 0x00008067 ∷ 0x00000000 ∷ 0x00000000 ∷ [])

-- thread 0 makes thread 1, which stores and exits, joins it and stores
abbrev pub joined_guest : Program
joined_guest = guest (table_of (Some 0x1007C) (Some 0x10080) None None) true 140
    (0x000101B7 ∷ 0x08418513 ∷ 0x07418613 ∷ 0x01C000EF ∷ 0x00100513 ∷ 0x018000EF ∷ 0x08018423 ∷ 0x00100073 ∷ 0x08018423 ∷ 0x00008067 ∷ 0x00008067 ∷ 0x00008067 ∷ 0x00000000 ∷ 0x00000000 ∷ [])

-- both store under one mutex
abbrev pub locked_guest : Program
locked_guest = guest (table_of (Some 0x10094) None (Some 0x10098) (Some 0x1009C)) true 172
    (0x000101B7 ∷ 0x0A018513 ∷ 0x08018613 ∷ 0x0A418693 ∷ 0x030000EF ∷ 0x0A418513 ∷ 0x02C000EF ∷ 0x0A018423 ∷ 0x0A418513 ∷ 0x024000EF ∷ 0x00100073 ∷ 0x018000EF ∷ 0x0A018423 ∷ 0x0A418513 ∷ 0x010000EF ∷ 0x00100073 ∷ 0x00008067 ∷ 0x00008067 ∷ 0x00008067 ∷ 0x00000000 ∷ 0x00000000 ∷ 0x00000000 ∷ [])

-- ---- atomic instructions

-- thread 0 makes thread 1, and each does AMOADD at an address of its own choice; thread 1 may do another instruction in its place
abbrev pub adding_guest : (first second other : ℕ) → Program
adding_guest first second other = guest (table_of (Some 0x1007C) None None None) true 136
    (0x000101B7 ∷ 0x08018513 ∷ 0x07018613 ∷ first ∷ 0x018000EF ∷ 0x0053202F ∷ 0x00100073 ∷ second ∷ other ∷ 0x00100073 ∷ 0x00008067 ∷ 0x00000000 ∷ 0x00000000 ∷ [])

-- both add to one word
abbrev pub atomics_guest : Program
atomics_guest = adding_guest 0x08418313 0x08418313 0x0053202F

-- thread 1 stores to it
abbrev pub beside_guest : Program
beside_guest = adding_guest 0x08418313 0x08418313 0x00032023

-- both add to the word of thread 0's own AMOADD
abbrev pub own_word_guest : Program
own_word_guest = adding_guest 0x06818313 0x06818313 0x0053202F

-- thread 1 looks at the word by LR
abbrev pub looking_guest : Program
looking_guest = adding_guest 0x08418313 0x08418313 0x100322AF

-- thread 0 adds, and then thread 1 comes to its own access
abbrev pub adding_plan : List ℕ
adding_plan = replicate 7 0 ++ 1 ∷ 1 ∷ []

-- thread 1 comes to its access before thread 0 adds
abbrev pub looking_plan : List ℕ
looking_plan = replicate 6 0 ++ 1 ∷ 1 ∷ 0 ∷ []

-- ---- a wait, and memory on demand

-- the execution of the guest that waits on a condition variable, as the votes of one driver name it: thread 0 locks the mutex, makes
-- thread 1, and begins to wait; that one locks, signals and unlocks; thread 0 waits no longer, unlocks, and asks to join; thread 1
-- exits; thread 0 joins it and exits
abbrev pub waiting_plan : List ℕ
waiting_plan = replicate 15 0 ++ replicate 10 1 ++ replicate 7 0 ++ replicate 3 1 ++ replicate 4 0

-- it asks for a page and a byte of private memory, then for shared memory, and stores to the last byte of what it was given
abbrev pub mapping_guest : Program
mapping_guest = guest no_calls false 124
    (0x000015B7 ∷ 0x00158593 ∷ 0x00300613 ∷ 0x02200693 ∷ 0x0DE00893 ∷ 0x00000073 ∷ 0x02100693 ∷ 0x00000073 ∷ 0x50002437 ∷ 0xFE040FA3 ∷ [])

-- ---- what orders nothing

-- each stores under a mutex of its own
abbrev pub two_mutexes_guest : Program
two_mutexes_guest = guest (table_of (Some 0x10094) None (Some 0x10098) (Some 0x1009C)) true 176
    (0x000101B7 ∷ 0x0A018513 ∷ 0x08018613 ∷ 0x0AC18693 ∷ 0x030000EF ∷ 0x0A418513 ∷ 0x02C000EF ∷ 0x0A018423 ∷ 0x0A418513 ∷ 0x024000EF ∷ 0x00100073 ∷ 0x018000EF ∷ 0x0A018423 ∷ 0x0AC18513 ∷ 0x010000EF ∷ 0x00100073 ∷ 0x00008067 ∷ 0x00008067 ∷ 0x00008067 ∷ 0x00000000 ∷ 0x00000000 ∷ 0x00000000 ∷ 0x00000000 ∷ [])

-- thread 0 stores and unlocks its mutex before thread 1 locks the other and stores
abbrev pub two_mutexes_plan : List ℕ
two_mutexes_plan = replicate 13 0 ++ replicate 3 1

-- of the locking guest: thread 0 makes both threads, and then the first one steps
abbrev pub creations_plan : List ℕ
creations_plan = replicate 11 0 ++ replicate 4 1

-- of the locking guest: both threads have exited when thread 0 joins the first one
abbrev pub exits_plan : List ℕ
exits_plan = replicate 14 0 ++ replicate 16 1 ++ replicate 16 2 ++ 0 ∷ []
