-- A journal for rows.
use Rattle.std.specs.Prelude.{ℕ, List, [], ◌∷◌}
use Rattle.ro_journal.specs.declared.Did.TheVariants.{Served}
use Rattle.ro_journal.specs.declared.How.TheVariants.{Exit as ExitHow}
use Rattle.ro_journal.specs.declared.losers.Lost.TheVariants.{Nobody}
use Rattle.ro_journal.specs.declared.Lease.{Lease}
use Rattle.ro_journal.specs.declared.Entry.{Entry}
use Rattle.ro_journal.specs.declared.Entry.TheVariants.{Take, Put, Part, Vote, Free, End}

abbrev pub lease_of : (replica thread : ℕ) → Lease
lease_of replica thread = record { driver = replica; replica = replica; thread = thread }

-- Thread 0 makes three steps in each replica, in replica 1 by two leases, and one that is served. Then thread 1 makes two steps in
-- replica 1, three in replica 0, and a third in replica 1; the call at which it waits is served.
abbrev pub row_journal : List Entry
row_journal =
    Take (lease_of 0 0) ∷ Put (lease_of 0 0) 3 0 ∷ Put (lease_of 1 0) 2 0 ∷ Part (lease_of 1 0) 1 0 ∷ Vote 0 3 0 Nobody Served
    ∷ Part (lease_of 1 1) 2 0 ∷ Put (lease_of 0 1) 3 0 ∷ Put (lease_of 1 1) 1 0 ∷ Free 1 ∷ End (ExitHow 0) ∷ []
