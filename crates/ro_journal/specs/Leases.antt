-- A lease by its three numbers.
use Rattle.std.specs.Prelude.{ℕ}
use Rattle.ro_journal.specs.declared.Lease.{Lease}

-- the lease to a driver of a replica's thread
abbrev pub lease_to : (driver replica thread : ℕ) → Lease
lease_to driver replica thread = record { driver = driver; replica = replica; thread = thread }
