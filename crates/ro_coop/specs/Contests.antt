-- Guests whose threads contend for mutexes, and journals of theirs by the rules of a cooperative run.
use Rattle.std.specs.Prelude.{ℕ, Bool, true, false, ◌==◌, if◌then◌else◌, List, [], ◌∷◌, ◌++◌, map, Option, Some, None, slice_get}
use Rattle.std.specs.Option.{option_and_then, option_map_or}
use Rattle.ro_settings.specs.declared.Mode.TheVariants.{Cooperative}
use Rattle.ro_event.specs.declared.table.CallTable.{CallTable}
use Rattle.ro_journal.specs.declared.Did.TheVariants.{Served as WasServed, Parked as WasParked}
use Rattle.ro_journal.specs.declared.How.{How}
use Rattle.ro_journal.specs.declared.How.TheVariants.{Exit as ExitHow, Deadlock, Differ}
use Rattle.ro_journal.specs.declared.Lease.{Lease}
use Rattle.ro_journal.specs.declared.Entry.{Entry}
use Rattle.ro_journal.specs.declared.Entry.TheVariants.{Part, End}
use Rattle.ro_plain.specs.Machine.{Program}
use Rattle.ro_simulation.specs.Guests.{guest}
use Rattle.ro_orders.specs.Copies.{Rows}
use Rattle.ro_peer.specs.Peers.{mutex_in}
use Rattle.ro_replica.specs.Replica.{changed_at}
use Rattle.ro_legal.specs.Sides.{Side, threads_of}
use Rattle.ro_legal.specs.Core.{Job, Core, is_given_up}
use Rattle.ro_legal.specs.Event.{Event}
use Rattle.ro_legal.specs.Cooperative.{voted_event}
use Rattle.ro_coop.specs.Guests.{take_by, put_by, vote_on, both_leases, then_served}

-- the addresses of create, exit, lock and unlock
abbrev pub contest_table : (create exit lock unlock : Option ℕ) → CallTable
contest_table create exit lock unlock = record { addresses = create ∷ None ∷ exit ∷ None ∷ None ∷ None ∷ lock ∷ None ∷ unlock ∷ [] }

abbrev pub contest_job : Program → (replicas : ℕ) → Job
contest_job program replicas = record {
  program = program;
  faults = [];
  settings = record { mode = Cooperative; replicas = replicas; drivers = replicas; watchdog = 1000; quantum = 100; limit = 1000; scrub = 0 };
}

abbrev pub lease_by : (replica thread : ℕ) → Lease
lease_by replica thread = record { driver = replica; replica = replica; thread = thread }

abbrev pub part_by : (replica thread count : ℕ) → Entry
part_by replica thread count = Part (lease_by replica thread) count 0

-- ---- two threads that write

-- Thread 0 locks a mutex, writes A, unlocks it and makes thread 1. Then each of the two locks it: thread 1 writes B, unlocks it and
-- exits; thread 0 ends the program.
abbrev pub writers_guest : Program
writers_guest = guest (contest_table (Some 0x100C4) (Some 0x100C8) (Some 0x100CC) (Some 0x100D0)) true 224
    (0x000101B7 ∷ 0x0D418513 ∷ 0x070000EF ∷ 0x00100513 ∷ 0x0DC18593 ∷ 0x00100613 ∷ 0x04000893 ∷ 0x00000073 ∷ 0x0D418513 ∷ 0x058000EF ∷ 0x0D818513 ∷ 0x00000593 ∷ 0x0A018613 ∷ 0x0D418693 ∷ 0x05D00893 ∷ 0x034000EF ∷ 0x0D418513 ∷ 0x034000EF ∷ 0x00000073 ∷ 0x02C000EF ∷ 0x00100513 ∷ 0x0DD18593 ∷ 0x00100613 ∷ 0x04000893 ∷ 0x00000073 ∷ 0x0D418513 ∷ 0x014000EF ∷ 0x008000EF ∷ 0x00008067 ∷ 0x00008067 ∷ 0x00008067 ∷ 0x00008067 ∷ 0x00000000 ∷ 0x00000000 ∷ 0x00004241 ∷ [])

abbrev pub writers_job : Job
writers_job = contest_job writers_guest 2

abbrev pub writers_mutex : ℕ
writers_mutex = 0x100D4

-- a page on which these threads get the mutex, in this order, and nobody any other
abbrev pub page_of_threads : List ℕ → Rows
page_of_threads threads = λ mutex rank. if mutex == writers_mutex then slice_get threads rank else None

-- Thread 0's first lock is voted, and brings the mutex into the table. It unlocks it before it makes thread 1.
abbrev pub writers_alone : List Entry
writers_alone = then_served 0 3 ++ then_served 0 4 ++ then_served 0 9

-- thread 1 comes back at the free mutex in replica 1, while it is lent in replica 0
abbrev pub writers_asked : List Entry
writers_asked = writers_alone ++ take_by 0 1 ∷ take_by 1 1 ∷ part_by 1 1 1 ∷ []

-- in replica 0 it gets it
abbrev pub writers_got : List Entry
writers_got = writers_asked ++ put_by 0 1 6 ∷ []

-- thread 0 comes back at its lock in both: in replica 0 thread 1 owns the mutex, in replica 1 it is free
abbrev pub writers_parted : List Entry
writers_parted = writers_got ++ take_by 0 0 ∷ part_by 0 0 2 ∷ take_by 1 0 ∷ part_by 1 0 2 ∷ []

-- thread 1 gets it in replica 1 too, and writes
abbrev pub writers_wrote : List Entry
writers_wrote = writers_parted ++ take_by 1 1 ∷ put_by 1 1 5 ∷ vote_on 1 6 WasServed ∷ []

-- it unlocks it in replica 0
abbrev pub writers_freed : List Entry
writers_freed = writers_wrote ++ take_by 0 1 ∷ put_by 0 1 4 ∷ []

-- and in replica 1
abbrev pub writers_freed_too : List Entry
writers_freed_too = writers_freed ++ take_by 1 1 ∷ put_by 1 1 4 ∷ []

-- thread 1 exits; thread 0 gets the mutex, and ends the program
abbrev pub writers_journal : List Entry
writers_journal = writers_freed_too ++ vote_on 1 4 WasServed ∷ both_leases 0 1 1 ++ vote_on 0 3 WasServed ∷ End (ExitHow 0) ∷ []

-- what was written, how it ended, the length of the plan, and who got the mutex in each replica
abbrev pub contest_shown : Core → List ℕ × Option How × ℕ × List (List ℕ)
contest_shown core = (core.output, core.ended, core.steps, map (λ (side : Side). threads_of writers_mutex side.gets) core.sides)

-- ---- a thread that waits by looking

-- The same, but thread 1 locks the mutex again when it has unlocked it, and then ends the program too.
abbrev pub looking_guest : Program
looking_guest = guest (contest_table (Some 0x100C4) (Some 0x100C8) (Some 0x100CC) (Some 0x100D0)) true 224
    (0x000101B7 ∷ 0x0D418513 ∷ 0x070000EF ∷ 0x00100513 ∷ 0x0DC18593 ∷ 0x00100613 ∷ 0x04000893 ∷ 0x00000073 ∷ 0x0D418513 ∷ 0x058000EF ∷ 0x0D818513 ∷ 0x00000593 ∷ 0x0A018613 ∷ 0x0D418693 ∷ 0x05D00893 ∷ 0x034000EF ∷ 0x0D418513 ∷ 0x034000EF ∷ 0x00000073 ∷ 0x02C000EF ∷ 0x00100513 ∷ 0x0DD18593 ∷ 0x00100613 ∷ 0x04000893 ∷ 0x00000073 ∷ 0x0D418513 ∷ 0x014000EF ∷ 0xFD5FF06F ∷ 0x00008067 ∷ 0x00008067 ∷ 0x00008067 ∷ 0x00008067 ∷ 0x00000000 ∷ 0x00000000 ∷ 0x00004241 ∷ [])

abbrev pub looking_job : Job
looking_job = contest_job looking_guest 2

-- Thread 1 has the mutex in both replicas. In replica 0 thread 0 comes back at it; then thread 1 unlocks it there, and comes back at
-- the free mutex.
abbrev pub looking_back : List Entry
looking_back =
    writers_alone ++ both_leases 1 6 6 ++ take_by 0 0 ∷ part_by 0 0 2 ∷ vote_on 1 6 WasServed ∷ take_by 0 1 ∷ part_by 0 1 6 ∷ []

-- thread 0 comes back there again, where the mutex is free
abbrev pub looking_asked : List Entry
looking_asked = looking_back ++ take_by 0 0 ∷ part_by 0 0 0 ∷ []

-- or thread 1 gets the mutex again in replica 1
abbrev pub looking_got : List Entry
looking_got = looking_back ++ take_by 1 1 ∷ put_by 1 1 7 ∷ []

-- whether a thread gives up a rank of the mutex in a replica
abbrev pub gives_up : Core → (replica thread rank : ℕ) → Bool
gives_up core replica thread rank =
    option_map_or (λ side. option_map_or (λ mutex. is_given_up core side thread mutex rank) (mutex_in side.mutexes writers_mutex) false) (slice_get core.sides replica) false

-- ---- a deadlock

-- Thread 0 locks a mutex, locks it again, makes thread 1 and locks another. Thread 1 locks that one, and then the first.
abbrev pub crossing_guest : Program
crossing_guest = guest (contest_table (Some 0x10094) None (Some 0x10098) None) true 168
    (0x000101B7 ∷ 0x09C18513 ∷ 0x03C000EF ∷ 0x09C18513 ∷ 0x034000EF ∷ 0x0A418513 ∷ 0x08418613 ∷ 0x0A018693 ∷ 0x020000EF ∷ 0x0A018513 ∷ 0x01C000EF ∷ 0x00100073 ∷ 0x014000EF ∷ 0x09C18513 ∷ 0x00C000EF ∷ 0x00100073 ∷ 0x00008067 ∷ 0x00008067 ∷ 0x00000000 ∷ 0x00000000 ∷ 0x00000000 ∷ [])

abbrev pub crossing_job : Job
crossing_job = contest_job crossing_guest 2

-- thread 0 has the first mutex, and comes to it again
abbrev pub crossing_again : List Entry
crossing_again = then_served 0 3 ++ take_by 0 0 ∷ []

-- thread 1 has the other, and both come back at their locks in each replica
abbrev pub crossing_stuck : List Entry
crossing_stuck =
    then_served 0 3 ++ then_served 0 7 ++ then_served 1 1
    ++ take_by 0 0 ∷ part_by 0 0 2 ∷ take_by 1 0 ∷ part_by 1 0 2 ∷ take_by 0 1 ∷ part_by 0 1 2 ∷ take_by 1 1 ∷ part_by 1 1 2 ∷ []

abbrev pub crossing_journal : List Entry
crossing_journal = crossing_stuck ++ End Deadlock ∷ []

-- ---- no cooperative mutex

-- the thread gets a mutex by a trylock, and waits on a condition variable
abbrev pub waiting_guest : Program
waiting_guest = guest (record { addresses = None ∷ None ∷ None ∷ None ∷ None ∷ None ∷ None ∷ Some 0x10070 ∷ None ∷ None ∷ None ∷ Some 0x10074 ∷ [] }) true 128
    (0x000101B7 ∷ 0x07818513 ∷ 0x014000EF ∷ 0x07C18513 ∷ 0x07818593 ∷ 0x00C000EF ∷ 0x00100073 ∷ 0x00008067 ∷ 0x00008067 ∷ 0x00000000 ∷ 0x00000000 ∷ [])

abbrev pub waiting_job : Job
waiting_job = contest_job waiting_guest 2

-- nobody signals it
abbrev pub waiting_stuck : List Entry
waiting_stuck = then_served 0 3 ++ both_leases 0 3 3 ++ vote_on 0 3 WasParked ∷ []

abbrev pub waiting_journal : List Entry
waiting_journal = waiting_stuck ++ End Deadlock ∷ []

-- ---- a race

-- thread 0 makes thread 1, loads a byte that it stores, and exits with that
abbrev pub byte_guest : Program
byte_guest = guest (contest_table (Some 0x10078) None None None) true 132
    (0x000101B7 ∷ 0x07C18513 ∷ 0x07018613 ∷ 0x05D00893 ∷ 0x014000EF ∷ 0x0801C503 ∷ 0x00000073 ∷ 0x08418023 ∷ 0x00100073 ∷ 0x00008067 ∷ 0x00000000 ∷ 0x00000000 ∷ [])

abbrev pub byte_job : Job
byte_job = contest_job byte_guest 3

-- a lease of so many steps of each of three replicas
abbrev pub three_leases : (thread count : ℕ) → List Entry
three_leases thread count =
    take_by 0 thread ∷ take_by 1 thread ∷ take_by 2 thread ∷ put_by 0 thread count ∷ put_by 1 thread count ∷ put_by 2 thread count ∷ []

-- in replica 2 thread 1 stores before thread 0 loads
abbrev pub byte_front : List Entry
byte_front = three_leases 0 5 ++ vote_on 0 5 WasServed ∷ take_by 2 1 ∷ put_by 2 1 1 ∷ three_leases 0 1

abbrev pub byte_journal : List Entry
byte_journal = byte_front ++ End Differ ∷ []

-- ---- a reservation

-- Thread 0 locks a mutex, loads a word that it reserves, unlocks the mutex, stores into the word if it still has it reserved, and exits
-- with what that answers.
abbrev pub reserving_guest : Program
reserving_guest = guest (contest_table None None (Some 0x1007C) (Some 0x10080)) true 140
    (0x000101B7 ∷ 0x08418513 ∷ 0x020000EF ∷ 0x08818413 ∷ 0x100425AF ∷ 0x08418513 ∷ 0x014000EF ∷ 0x18B4252F ∷ 0x05D00893 ∷ 0x00000073 ∷ 0x00008067 ∷ 0x00008067 ∷ 0x00000000 ∷ 0x00000000 ∷ [])

abbrev pub reserving_job : Job
reserving_job = contest_job reserving_guest 3

-- each replica answers the unlock, and comes to the store
abbrev pub reserving_front : List Entry
reserving_front = three_leases 0 3 ++ vote_on 0 3 WasServed ∷ three_leases 0 1 ++ vote_on 0 1 WasServed ∷ three_leases 0 3

-- the same core, but that replica 0 came there without having answered a call
abbrev pub with_none_answered : Core → Core
with_none_answered core = record core { sides = changed_at (λ (side : Side). record side { answered = λ thread. false }) core.sides 0 }

-- what the event of a vote on thread 0 answers
abbrev pub store_answers : Core → Option ℕ
store_answers core = option_and_then (λ (event : Event). event.effect.answer) (voted_event reserving_job core 0)
