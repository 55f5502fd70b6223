-- A cooperative run of two replicas, and what rows ask of it.
use Rattle.std.specs.Prelude.{ℕ, ◌&&◌, ◌==◌, if◌then◌else◌, List, [], ◌∷◌, ◌++◌, map, replicate, Option, Some, None}
use Rattle.ro_settings.specs.declared.Mode.TheVariants.{Cooperative}
use Rattle.ro_event.specs.declared.calls.Which.TheVariants.{Atomic}
use Rattle.ro_event.specs.declared.calls.Call.{Call}
use Rattle.ro_journal.specs.declared.Did.{Did}
use Rattle.ro_journal.specs.declared.Did.TheVariants.{Served as WasServed, Blocked as WasBlocked}
use Rattle.ro_journal.specs.declared.How.{How}
use Rattle.ro_journal.specs.declared.How.TheVariants.{Exit as ExitHow}
use Rattle.ro_journal.specs.declared.losers.Lost.TheVariants.{Nobody}
use Rattle.ro_journal.specs.declared.Entry.{Entry}
use Rattle.ro_journal.specs.declared.Entry.TheVariants.{Take, Put, Vote, Free, End}
use Rattle.ro_kernel.specs.declared.reservations.Reservation.{Reservation}
use Rattle.ro_kernel.specs.Kernel.{Kernel, opening_kernel}
use Rattle.ro_kernel.specs.Serve.{Served, Done, serve}
use Rattle.ro_plain.specs.Machine.{setup_of}
use Rattle.ro_simulation.specs.Guests.{locking_guest}
use Rattle.ro_orders.specs.Choices.{in_table}
use Rattle.ro_orders.specs.Copies.{Rows}
use Rattle.ro_peer.specs.declared.mutexes.Mutex.{Mutex}
use Rattle.ro_peer.specs.Peers.{Peer, kernel_in}
use Rattle.ro_coop.specs.Core.{OneEnters, Job, Core, opening_core, kernel_for}

-- two replicas of the guest whose threads write one letter each under one mutex
abbrev pub letters_job : OneEnters in_table → Job
letters_job one = record {
  program = locking_guest;
  settings = record { mode = Cooperative; replicas = 2; drivers = 2; watchdog = 1000; quantum = 100; limit = 1000; scrub = 0 };
  chosen = in_table;
  one_enters = one;
}

abbrev pub letters_mutex : ℕ
letters_mutex = 0x100E8

-- a page on which this thread gets the mutex first, and nobody any other
abbrev pub page_of_thread : (thread : ℕ) → Rows
page_of_thread thread = λ mutex rank. if (mutex == letters_mutex) && (rank == 0) then Some thread else None

abbrev pub take_by : (replica thread : ℕ) → Entry
take_by replica thread = Take (record { driver = replica; replica = replica; thread = thread })

abbrev pub put_by : (replica thread count : ℕ) → Entry
put_by replica thread count = Put (record { driver = replica; replica = replica; thread = thread }) count 0

abbrev pub vote_on : (thread count : ℕ) → Did → Entry
vote_on thread count did = Vote thread count 0 Nobody did

-- a lease of so many steps of each replica
abbrev pub both_leases : (thread n m : ℕ) → List Entry
both_leases thread n m = take_by 0 thread ∷ take_by 1 thread ∷ put_by 0 thread n ∷ put_by 1 thread m ∷ []

abbrev pub then_served : (thread count : ℕ) → List Entry
then_served thread count = both_leases thread count count ++ vote_on thread count WasServed ∷ []

-- Thread 0 makes both threads and joins one. Thread 1's first call on the mutex is voted. Thread 2 comes to its lock in replica 0 and
-- waits there, while thread 1 writes, unlocks and exits.
abbrev pub letters_front : List Entry
letters_front =
    then_served 0 6 ++ then_served 0 3 ++ both_leases 0 3 3 ++ vote_on 0 3 WasBlocked ∷ then_served 1 4 ++ take_by 0 2 ∷ put_by 0 2 4 ∷ then_served 1 4 ++ then_served 1 5
    ++ Free 0 ∷ take_by 0 2 ∷ take_by 1 2 ∷ []

-- Then thread 2 gets the mutex in each replica, at its fifth step.
abbrev pub letters_back : List Entry
letters_back =
    put_by 0 2 5 ∷ put_by 1 2 9 ∷ vote_on 2 9 WasServed ∷ then_served 2 5 ++ then_served 0 2 ++ then_served 0 2 ++ End (ExitHow 0) ∷ []

abbrev pub letters_journal : List Entry
letters_journal = letters_front ++ letters_back

abbrev pub owner_and_rank : Peer → List (Option ℕ × ℕ)
owner_and_rank peer = map (λ (m : Mutex). (m.owner, m.rank)) peer.mutexes

-- what was written, how it ended, and the mutexes of each replica
abbrev pub shown : Core → List ℕ × Option How × List (List (Option ℕ × ℕ))
shown core = (core.output, core.ended, map owner_and_rank core.peers)

-- ---- reservations

abbrev pub a_reservation : Reservation
a_reservation = record { address = 0x100E8; word = 7 }

-- threads 0 and 1 have it
abbrev pub kernel_reserving : Kernel
kernel_reserving = record (opening_kernel 0x11000) { reserved = Some a_reservation ∷ Some a_reservation ∷ replicate 14 None }

-- each replica answered a call of thread 1
abbrev pub core_answering : OneEnters in_table → Core
core_answering one = record (opening_core (letters_job one)) {
  peers = map (λ (peer : Peer). record peer { answered = λ thread. thread == 1 }) (opening_core (letters_job one)).peers;
  kernel = kernel_reserving;
}

-- the reservations as each replica sees them
abbrev pub reserved_in : Core → List (List (Option Reservation))
reserved_in core = map (λ (peer : Peer). (kernel_in core.kernel peer).reserved) core.peers

-- sc.w a0, a1, (a0), which finds the word
abbrev pub store_conditional : Call
store_conditional = record { which = Atomic 0x18B5252F; a0 = 0x100E8; a1 = 1; a2 = 7; a3 = 0 }

abbrev pub answer_in : Served → Option ℕ
answer_in (Done kernel effect) = effect.answer
answer_in _ = None

-- what it answers to the thread
abbrev pub answer_to : Core → (thread : ℕ) → Option ℕ
answer_to core thread = answer_in (serve (setup_of locking_guest) (kernel_for core thread) thread store_conditional)
