-- More small guests.
use Rattle.std.specs.Prelude.{false, true, [], ◌∷◌, Some, None}
use Rattle.ro_plain.specs.Machine.{Program}
use Rattle.ro_simulation.specs.Guests.{no_calls, guest}

-- two threads that store to one page of the heap
abbrev pub page_guest : Program
page_guest = guest (record { addresses = Some 0x1009C ∷ Some 0x100A0 ∷ Some 0x100A4 ∷ None ∷ None ∷ None ∷ None ∷ None ∷ None ∷ [] }) true 172
    (0x00010437 ∷ 0x0A840513 ∷ 0x00000593 ∷ 0x08C40613 ∷ 0x00000693 ∷ 0x034000EF ∷ 0x000112B7 ∷ 0x00028023 ∷ 0x00100513 ∷ 0x00000593 ∷ 0x024000EF ∷ 0x00000513 ∷ 0x05D00893 ∷ 0x00000073 ∷ 0x000112B7 ∷ 0x000280A3 ∷ 0x00000513 ∷ 0x00C000EF ∷ 0x00008067 ∷ 0x00008067 ∷ 0x00008067 ∷ 0x00000000 ∷ [])

-- thread 0 holds a mutex and joins a thread that wants it
abbrev pub deadlock_guest : Program
deadlock_guest = guest (record { addresses = Some 0x1008C ∷ Some 0x10090 ∷ None ∷ None ∷ None ∷ None ∷ Some 0x10094 ∷ None ∷ None ∷ [] }) true 160
    (0x00010437 ∷ 0x09C40513 ∷ 0x038000EF ∷ 0x09840513 ∷ 0x00000593 ∷ 0x08040613 ∷ 0x00000693 ∷ 0x01C000EF ∷ 0x00100513 ∷ 0x00000593 ∷ 0x014000EF ∷ 0x00010437 ∷ 0x09C40513 ∷ 0x00C000EF ∷ 0x00008067 ∷ 0x00008067 ∷ 0x00008067 ∷ 0x00000000 ∷ 0x00000000 ∷ [])

-- thread 0 waits on a condition variable, which thread 1 signals, and exits with 5
abbrev pub waiting_guest : Program
waiting_guest = guest (record { addresses = Some 0x100CC ∷ Some 0x100D8 ∷ Some 0x100E0 ∷ None ∷ None ∷ None ∷ Some 0x100C8 ∷ None ∷ Some 0x100D4 ∷ None ∷ None ∷ Some 0x100D0 ∷ Some 0x100DC ∷ None ∷ [] }) false 228
    (0x00011437 ∷ 0x00040513 ∷ 0x06C000EF ∷ 0x00840513 ∷ 0x00000593 ∷ 0x00010637 ∷ 0x0A460613 ∷ 0x00000693 ∷ 0x058000EF ∷ 0x00440513 ∷ 0x00040593 ∷ 0x050000EF ∷ 0x00040513 ∷ 0x04C000EF ∷ 0x00100513 ∷ 0x00000593 ∷ 0x044000EF ∷ 0x00500513 ∷ 0x05D00893 ∷ 0x00000073 ∷ 0x00011437 ∷ 0x00040513 ∷ 0x01C000EF ∷ 0x00440513 ∷ 0x028000EF ∷ 0x00040513 ∷ 0x018000EF ∷ 0x00000513 ∷ 0x01C000EF ∷ 0x00008067 ∷ 0x00008067 ∷ 0x00008067 ∷ 0x00008067 ∷ 0x00008067 ∷ 0x00008067 ∷ 0x00008067 ∷ [])

-- a thread signals a condition variable, and then waits on it
abbrev pub lost_guest : Program
lost_guest = guest (record { addresses = None ∷ None ∷ None ∷ None ∷ None ∷ None ∷ Some 0x10074 ∷ None ∷ None ∷ None ∷ None ∷ Some 0x1007C ∷ Some 0x10078 ∷ None ∷ [] }) false 128
    (0x00011437 ∷ 0x00040513 ∷ 0x018000EF ∷ 0x00440513 ∷ 0x014000EF ∷ 0x00440513 ∷ 0x00040593 ∷ 0x00C000EF ∷ 0x00008067 ∷ 0x00008067 ∷ 0x00008067 ∷ [])

-- a jump to itself
abbrev pub loop_guest : Program
loop_guest = guest no_calls false 88 (0x0000006F ∷ [])

-- it counts 3 down and exits with 7
abbrev pub count_guest : Program
count_guest = guest no_calls false 108 (0x00300293 ∷ 0xFFF28293 ∷ 0xFE029EE3 ∷ 0x00700513 ∷ 0x05D00893 ∷ 0x00000073 ∷ [])

-- it writes `hello` and exits with 0
abbrev pub hello_guest : Program
hello_guest = guest no_calls false 128 (0x00100513 ∷ 0x000105B7 ∷ 0x07858593 ∷ 0x00500613 ∷ 0x04000893 ∷ 0x00000073 ∷ 0x00000513 ∷ 0x05D00893 ∷ 0x00000073 ∷ 0x6C6C6568 ∷ 0x0000006F ∷ [])

-- it writes `hell`, then `o`, and exits with 0
abbrev pub hell_o_guest : Program
hell_o_guest = guest no_calls false 144 (0x00100513 ∷ 0x000105B7 ∷ 0x08858593 ∷ 0x00400613 ∷ 0x04000893 ∷ 0x00000073 ∷ 0x00100513 ∷ 0x00458593 ∷ 0x00100613 ∷ 0x00000073 ∷ 0x00000513 ∷ 0x05D00893 ∷ 0x00000073 ∷ 0x6C6C6568 ∷ 0x0000006F ∷ [])

-- LR, an addition and SC, which stores; SC once more, which fails; AMOADD; and an exit with the sum of what the last two gave
abbrev pub atomic_guest : Program
atomic_guest = guest no_calls false 120 (0x00011337 ∷ 0x100322AF ∷ 0x00728293 ∷ 0x185323AF ∷ 0x185323AF ∷ 0x0053252F ∷ 0x00750533 ∷ 0x05D00893 ∷ 0x00000073 ∷ [])
