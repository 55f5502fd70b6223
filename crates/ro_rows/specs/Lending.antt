-- Cores of a run that lends pages.
use Rattle.std.specs.Prelude.{ℕ, ◌*◌, Bool, true, false, List, [], ◌∷◌, ◌++◌, map, Some, None}
use Rattle.std.specs.List.{range_with_len, flat_map}
use Rattle.ro_journal.specs.Leases.{lease_to}
use Rattle.ro_journal.specs.declared.Did.TheVariants.{Served}
use Rattle.ro_journal.specs.declared.Entry.{Entry}
use Rattle.ro_journal.specs.declared.Entry.TheVariants.{Take, Put, Part, Vote}
use Rattle.ro_journal.specs.declared.losers.Lost.TheVariants.{Nobody}
use Rattle.ro_faults.specs.declared.Target.TheVariants.{Register}
use Rattle.ro_image.specs.Image.{ranges_with}
use Rattle.ro_plain.specs.Machine.{Program}
use Rattle.ro_legal.specs.Core.{Job, Core}
use Rattle.ro_legal.specs.Legal.{replay}
use Rattle.ro_simulation.specs.Guests.{guest}
use Rattle.ro_simulation.specs.Drives.{driven_from}
use Rattle.ro_rows.specs.Edges.{small_job, round}

-- Thread 0 makes thread 1, whose number the call stores in page 17 and so backs that, stores to the page itself, and joins it.
-- Thread 1 stores to the page and exits. Their code is in page 16, which may be written or not.
abbrev pub storing_guest : Bool → Program
storing_guest write = guest (record { addresses = Some 0x1009C ∷ Some 0x100A0 ∷ Some 0x100A4 ∷ None ∷ None ∷ None ∷ None ∷ None ∷ None ∷ [] }) write 172
    (0x00010437 ∷ 0x00011537 ∷ 0x00000593 ∷ 0x08C40613 ∷ 0x00000693 ∷ 0x034000EF ∷ 0x000112B7 ∷ 0x00028023 ∷ 0x00100513 ∷ 0x00000593 ∷ 0x024000EF ∷ 0x00000513 ∷ 0x05D00893 ∷ 0x00000073 ∷ 0x000112B7 ∷ 0x000280A3 ∷ 0x00000513 ∷ 0x00C000EF ∷ 0x00008067 ∷ 0x00008067 ∷ 0x00008067 ∷ 0x00000000 ∷ [])

-- with two drivers
abbrev pub storing_job : Bool → Job
storing_job write = let job = small_job (storing_guest write) [] 3 1000000000 in record job { settings = record job.settings { drivers = 2 } }

abbrev pub lending_job : Job
lending_job = storing_job false

-- the same guest with one driver
abbrev pub one_driver_job : Job
one_driver_job = small_job (storing_guest false) [] 3 1000000000

-- a register of thread 0 is to be struck in replica 0, at this moment
abbrev pub struck_job : (at : ℕ) → Job
struck_job at = record lending_job { faults = record { replica = 0; thread = 0; at = at; target = Register 9 0 } ∷ [] }

-- the core behind the vote on thread 0's call, and behind these entries more: both threads can go on
abbrev pub behind_in : Job → List Entry → Core
behind_in job entries = replay job (round 0 6 Served ++ entries)

abbrev pub behind : List Entry → Core
behind entries = behind_in lending_job entries

-- a thread of replica 0 comes back for the want of its code, and behind one instruction for that of its data
abbrev pub parts : (driver thread : ℕ) → List Entry
parts driver thread =
    Take (lease_to driver 0 thread) ∷ Part (lease_to driver 0 thread) 0 0 ∷ Take (lease_to driver 0 thread) ∷ Part (lease_to driver 0 thread) 1 0 ∷ []

-- thread 0 does, and is lent with both pages
abbrev pub first_out : List Entry
first_out = parts 0 0 ++ Take (lease_to 0 0 0) ∷ []

-- and then thread 1 does
abbrev pub second_parted : List Entry
second_parted = first_out ++ parts 1 1

-- thread 1 came back for the want of its code
abbrev pub second_waits : List Entry
second_waits = first_out ++ Take (lease_to 1 0 1) ∷ Part (lease_to 1 0 1) 0 0 ∷ []

-- thread 1 comes to its exit in every replica, while thread 0 can go on
abbrev pub exits_beside : List Entry
exits_beside = flat_map (λ replica.
    Take (lease_to 1 replica 1) ∷ Part (lease_to 1 replica 1) 0 0 ∷ Take (lease_to 1 replica 1) ∷ Part (lease_to 1 replica 1) 1 0 ∷ Take (lease_to 1 replica 1)
    ∷ Put (lease_to 1 replica 1) 3 0 ∷ []) (0 ∷ 1 ∷ 2 ∷ [])

-- and exits
abbrev pub one_exited : List Entry
one_exited = exits_beside ++ Vote 1 4 0 Nobody Served ∷ []

-- each thread of the core missed pages so often
abbrev pub missed_by : ℕ → Core → Core
missed_by count core = record core { misses = λ replica thread. count }

-- Both go on at once, until thread 1 wants the page that thread 0 has. That is given back, and then thread 1 stores to it too.
abbrev pub shared_start : List Entry
shared_start = round 0 6 Served ++ second_parted ++ Put (lease_to 0 0 0) 4 0 ∷ Take (lease_to 1 0 1) ∷ Put (lease_to 1 0 1) 3 0 ∷ []

-- and then one driver does what comes next
abbrev pub shared_journal : List Entry
shared_journal = shared_start ++ driven_from 100 lending_job (replay lending_job shared_start)

abbrev pub is_part : Entry → Bool
is_part (Part lease count hit) = true
is_part entry = false

-- ---- a thread that misses many pages

-- Thread 0 makes thread 1, and then stores to nine pages, one after the other, of each of which the file has a byte. The first store
-- is right behind the call.
abbrev pub wide_guest : Program
wide_guest =
    let narrow = guest (record { addresses = Some 0x100C0 ∷ None ∷ None ∷ None ∷ None ∷ None ∷ None ∷ None ∷ None ∷ [] }) false 196
    (0x00010437 ∷ 0x0001B537 ∷ 0x00000593 ∷ 0x0B440613 ∷ 0x00000693 ∷ 0x000122B7 ∷ 0x054000EF ∷ 0x00028023 ∷ 0x000132B7 ∷ 0x00028023 ∷ 0x000142B7 ∷ 0x00028023 ∷ 0x000152B7 ∷ 0x00028023 ∷ 0x000162B7 ∷ 0x00028023 ∷ 0x000172B7 ∷ 0x00028023 ∷ 0x000182B7 ∷ 0x00028023 ∷ 0x000192B7 ∷ 0x00028023 ∷ 0x0001A2B7 ∷ 0x00028023 ∷ 0x00000513 ∷ 0x05D00893 ∷ 0x00000073 ∷ 0x00008067 ∷ []) in
    record narrow {
      image = record narrow.image {
        pieces = narrow.image.pieces ++ map (λ page. record { place = page * 4096; bytes = 0 ∷ [] }) (range_with_len 18 9);
        ranges = ranges_with (record { start = 0x10000; length = 196; read = true; write = false; execute = true } ∷ record { start = 0x12000; length = 0x9000; read = true; write = true; execute = false } ∷ []) 0x1B000;
        heap = 0x1B000;
      };
    }

-- with two drivers
abbrev pub wide_job : Job
wide_job = let job = small_job wide_guest [] 3 1000000000 in record job { settings = record job.settings { drivers = 2 } }

-- a lease of thread 0 in replica 0 that comes back for the want of a page
abbrev pub part : (count : ℕ) → List Entry
part count = Take (lease_to 0 0 0) ∷ Part (lease_to 0 0 0) count 0 ∷ []

-- It comes back for the want of its code, then of the page of its store, with no instruction between, and then of the page of each
-- further store.
abbrev pub nine_parts : List Entry
nine_parts = round 0 7 Served ++ part 0 ++ part 0 ++ part 2 ++ part 2 ++ part 2 ++ part 2 ++ part 2 ++ part 2 ++ part 2

-- the next lease has the tenth page, too, and by it the thread comes to its call
abbrev pub behind_nine : List Entry
behind_nine = nine_parts ++ Take (lease_to 0 0 0) ∷ Put (lease_to 0 0 0) 5 0 ∷ []
