-- The two parts are lemmas.
use Rattle.ro_simulation.proofs.LockingGuest.{locking-free}
use Rattle.ro_simulation.proofs.RowsThreads.{locking-covered}
use Rattle.ro_simulation.proofs.locking_row.Goals as goal

pub returns-clause-race_free : goal.returns-clause-race_free
returns-clause-race_free c = locking-free

pub returns-clause-covered : goal.returns-clause-covered
returns-clause-covered c = locking-covered locking-free
