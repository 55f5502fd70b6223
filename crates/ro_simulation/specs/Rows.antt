-- Worked rows: journals of small guests.
use Rattle.std.specs.Prelude.{◌≡◌, ℕ, List, [], ◌∷◌, Some}
use Rattle.ro_journal.specs.Leases.{lease_to}
use Rattle.ro_journal.specs.declared.losers.Lost.TheVariants.{One}
use Rattle.ro_journal.specs.declared.Did.TheVariants.{Served}
use Rattle.ro_journal.specs.declared.How.{How}
use Rattle.ro_journal.specs.declared.How.TheVariants.{Exit}
use Rattle.ro_journal.specs.declared.Entry.{Entry}
use Rattle.ro_journal.specs.declared.Entry.TheVariants.{Take, Put, Vote, End}
use Rattle.ro_faults.specs.declared.Fault.{Fault}
use Rattle.ro_faults.specs.declared.Target.TheVariants.{Register}
use Rattle.ro_legal.specs.Core.{Job}
use Rattle.ro_legal.specs.Legal.{Legal}
use Rattle.ro_legal.specs.Ideal.{StaysApart}
use Rattle.ro_simulation.specs.Theorem.{Simulates}

-- the lowest bit of a0 flips in a replica after its first instruction
abbrev pub flip_a0 : ℕ → Fault
flip_a0 replica = record { replica = replica; thread = 0; at = 1; target = Register 10 0 }

-- replica 1 is struck, loses the vote, and the program exits with 7
abbrev pub one_struck : List Entry
one_struck = Take (lease_to 0 0 0) ∷ Put (lease_to 0 0 0) 2 0 ∷ Take (lease_to 0 1 0) ∷ Put (lease_to 0 1 0) 2 1 ∷ Take (lease_to 0 2 0) ∷ Put (lease_to 0 2 0) 2 0 ∷ Vote 0 2 0 (One 1) Served ∷ End (Exit 7) ∷ []

-- replicas 0 and 1 are struck alike, replica 2 loses the vote, and the program exits with 6
abbrev pub two_struck : List Entry
two_struck = Take (lease_to 0 0 0) ∷ Put (lease_to 0 0 0) 2 1 ∷ Take (lease_to 0 1 0) ∷ Put (lease_to 0 1 0) 2 1 ∷ Take (lease_to 0 2 0) ∷ Put (lease_to 0 2 0) 2 0 ∷ Vote 0 2 0 (One 2) Served ∷ End (Exit 6) ∷ []

-- The premises of the simulation theorem hold, and the ideal machine ends so and writes this.
pub record IsCovered (job : Job) (journal : List Entry) (how : How) (output : List ℕ) : Type 0 where
  pub legal : Legal job journal
  pub apart : StaysApart job journal
  pub simulates : Simulates job journal
  pub ends : simulates.machine.ended ≡ Some how
  pub writes : simulates.machine.output ≡ output
