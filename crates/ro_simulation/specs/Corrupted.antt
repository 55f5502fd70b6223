-- A run in which a replica does what no run of it could.
use Rattle.std.specs.Prelude.{List, [], ◌∷◌, Some, None, true, false}
use Rattle.ro_event.specs.declared.stops.Stop.TheVariants.{PageFault}
use Rattle.ro_journal.specs.declared.Did.TheVariants.{Served}
use Rattle.ro_journal.specs.declared.How.TheVariants.{Exit}
use Rattle.ro_journal.specs.declared.losers.Lost.TheVariants.{One, Two}
use Rattle.ro_journal.specs.Leases.{lease_to}
use Rattle.ro_journal.specs.declared.Entry.TheVariants.{Take, Put, Vote, End}
use Rattle.ro_image.specs.Image.{holds_file_byte}
use Rattle.ro_exec.specs.Threads.{first_cpu}
use Rattle.ro_thread.specs.declared.Thread.{Thread}
use Rattle.ro_replica.specs.Replica.{Replica}
use Rattle.ro_legal.specs.Upsets.{Return, Moment, Comes, Upsets, Gives}
use Rattle.ro_legal.specs.Core.{Job}
use Rattle.ro_simulation.specs.Guests.{exit_guest, usual_job}

-- its thread stands at 3, has retired a million instructions, and 5 since its release
abbrev pub corrupted_thread : Thread
corrupted_thread = record { cpu = first_cpu 3; since = 5; done = 1000000; stop = None }

-- its memory holds 255 everywhere
abbrev pub corrupted : Replica
corrupted = record { memory = λ address. 255; backed = holds_file_byte exit_guest.image.pieces; threads = corrupted_thread ∷ []; waiting = [] }

-- a lease that comes back after one instruction, at the fault of page 7
abbrev pub strange : Return
strange = record { parts = false; count = 1; hit = 0; stop = Some (PageFault 7); page = Some 7 }

-- Replica 1 becomes that one at the opening, and its lease comes back so. It loses the vote.
abbrev pub corrupted_run : List Moment
corrupted_run =
    Upsets 1 corrupted ∷ Comes (Take (lease_to 0 0 0)) ∷ Comes (Put (lease_to 0 0 0) 2 0) ∷ Comes (Take (lease_to 0 1 0)) ∷ Gives (lease_to 0 1 0) strange corrupted
    ∷ Comes (Take (lease_to 0 2 0)) ∷ Comes (Put (lease_to 0 2 0) 2 0) ∷ Comes (Vote 0 2 0 (One 1) Served) ∷ Comes (End (Exit 7)) ∷ []

-- five replicas
abbrev pub five_job : Job
five_job = let job = usual_job exit_guest [] in record job { settings = record job.settings { replicas = 5 } }

-- a lease that comes back for the want of page 7
abbrev pub wanting : Return
wanting = record { parts = true; count = 1; hit = 0; stop = None; page = Some 7 }

-- Replicas 1 and 3 become the corrupted one. A lease of replica 3 comes back for the want of a page, and the next one at the fault
-- of that. Both lose the vote.
abbrev pub corrupted_two : List Moment
corrupted_two =
    Upsets 1 corrupted ∷ Upsets 3 corrupted ∷ Comes (Take (lease_to 0 0 0)) ∷ Comes (Put (lease_to 0 0 0) 2 0) ∷ Comes (Take (lease_to 0 1 0)) ∷ Gives (lease_to 0 1 0) strange corrupted
    ∷ Comes (Take (lease_to 0 2 0)) ∷ Comes (Put (lease_to 0 2 0) 2 0) ∷ Comes (Take (lease_to 0 3 0)) ∷ Gives (lease_to 0 3 0) wanting corrupted
    ∷ Comes (Take (lease_to 0 3 0)) ∷ Gives (lease_to 0 3 0) strange corrupted ∷ Comes (Take (lease_to 0 4 0)) ∷ Comes (Put (lease_to 0 4 0) 2 0)
    ∷ Comes (Vote 0 2 0 (Two 1 3) Served) ∷ Comes (End (Exit 7)) ∷ []
