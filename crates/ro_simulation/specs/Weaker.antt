-- A weaker form of alike, and the run that shows that it is too weak: a struck replica slips past a page fault.
use Rattle.std.specs.Prelude.{◌≡◌, ◌≢◌, ℕ, ◌<◌, IsTrue, false, List, [], ◌∷◌, ◌++◌, Some, None, slice_get}
use Rattle.ro_journal.specs.Leases.{lease_to}
use Rattle.ro_journal.specs.declared.losers.Lost.TheVariants.{Nobody}
use Rattle.ro_event.specs.declared.stops.Stop.{Stop}
use Rattle.ro_journal.specs.declared.Did.TheVariants.{PageBacked}
use Rattle.ro_journal.specs.declared.How.TheVariants.{NoMajority}
use Rattle.ro_journal.specs.declared.Lease.{Lease}
use Rattle.ro_journal.specs.declared.Entry.{Entry}
use Rattle.ro_journal.specs.declared.Entry.TheVariants.{Take, Put, Vote, End}
use Rattle.ro_faults.specs.declared.Fault.{Fault}
use Rattle.ro_faults.specs.declared.Target.TheVariants.{Register}
use Rattle.ro_kernel.specs.Kernel.{lives_on}
use Rattle.ro_thread.specs.declared.Thread.{Thread}
use Rattle.ro_replica.specs.Replica.{Replica}
use Rattle.ro_replica.specs.Runs.{standing_in}
use Rattle.ro_plain.specs.Machine.{Program, Machine, PlainRun, layout_in}
use Rattle.ro_legal.specs.Core.{Job}
use Rattle.ro_legal.specs.Legal.{replay}
use Rattle.ro_legal.specs.Ideal.{ideal, ahead}
use Rattle.ro_simulation.specs.Guests.{no_calls, guest}

-- Alike, but for the demand that the replica ran ahead on backed pages only.
pub record IsNearlyAlike (job : Job) (journal : List Entry) (replica : Replica) : Type 0 where
  pub machine : Machine
  pub ideal_is : ideal job journal ≡ Some machine
  pub goes_on : machine.ended ≡ None
  pub end : Machine
  pub runs : PlainRun job.program machine (ahead replica) end
  pub same_memory : replica.memory ≡ end.memory
  pub same_cpus : (number : ℕ) (thread : Thread) → IsTrue (lives_on machine.kernel number) → slice_get replica.threads number ≡ Some thread → slice_get end.cpus number ≡ Some thread.cpu
  pub stops_stand : (number : ℕ) (thread : Thread) (stop : Stop) → IsTrue (lives_on machine.kernel number) → slice_get replica.threads number ≡ Some thread → thread.stop ≡ Some stop → standing_in (layout_in job.program machine.kernel) job.settings.watchdog replica thread ≡ Some stop

-- Faults strike no replica while another is not even nearly alike.
abbrev pub StaysNearlyApart : Job → List Entry → Type 0
StaysNearlyApart job journal =
    (before rest : List Entry) (lease : Lease) (count hit : ℕ) →
    journal ≡ before ++ Put lease count hit ∷ rest → 0 < hit →
    (other : ℕ) (r : Replica) → other ≢ lease.replica → slice_get (replay job before).replicas other ≡ Some r → IsNearlyAlike job before r

-- it loads from page 17, then from page 19, and exits with 7
abbrev pub loading_guest : Program
loading_guest = guest no_calls false 116 (0x000113B7 ∷ 0x0003A403 ∷ 0x00013337 ∷ 0x00032283 ∷ 0x00000313 ∷ 0x00700513 ∷ 0x05D00893 ∷ 0x00000073 ∷ [])

-- Replica 0's second load goes to page 17, which is backed, and reads the same zeros; then a0 of replica 1 flips.
abbrev pub slipping : List Fault
slipping = record { replica = 0; thread = 0; at = 3; target = Register 6 13 } ∷ record { replica = 1; thread = 0; at = 3; target = Register 10 0 } ∷ []

-- before each of the two strikes
abbrev pub until_first : List Entry
until_first = Take (lease_to 0 0 0) ∷ Put (lease_to 0 0 0) 1 0 ∷ Take (lease_to 0 1 0) ∷ Put (lease_to 0 1 0) 1 0 ∷ Take (lease_to 0 2 0) ∷ Put (lease_to 0 2 0) 1 0 ∷ Vote 0 1 0 Nobody PageBacked ∷ Take (lease_to 0 0 0) ∷ []

-- before the second strike
abbrev pub until_second : List Entry
until_second = Take (lease_to 0 0 0) ∷ Put (lease_to 0 0 0) 1 0 ∷ Take (lease_to 0 1 0) ∷ Put (lease_to 0 1 0) 1 0 ∷ Take (lease_to 0 2 0) ∷ Put (lease_to 0 2 0) 1 0 ∷ Vote 0 1 0 Nobody PageBacked ∷ Take (lease_to 0 0 0) ∷ Put (lease_to 0 0 0) 6 1 ∷ Take (lease_to 0 1 0) ∷ []

-- three different views
abbrev pub slipped : List Entry
slipped = Take (lease_to 0 0 0) ∷ Put (lease_to 0 0 0) 1 0 ∷ Take (lease_to 0 1 0) ∷ Put (lease_to 0 1 0) 1 0 ∷ Take (lease_to 0 2 0) ∷ Put (lease_to 0 2 0) 1 0 ∷ Vote 0 1 0 Nobody PageBacked ∷ Take (lease_to 0 0 0) ∷ Put (lease_to 0 0 0) 6 1 ∷ Take (lease_to 0 1 0) ∷ Put (lease_to 0 1 0) 2 1 ∷ Take (lease_to 0 2 0) ∷ Put (lease_to 0 2 0) 2 0 ∷ End NoMajority ∷ []
