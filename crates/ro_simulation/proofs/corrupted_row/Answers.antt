-- They are computed.
use Rattle.ro_simulation.proofs.RowsCorrupted.{possible, only-replica-one, corrupted-exits, corrupted-still}
use Rattle.ro_simulation.proofs.corrupted_row.Goals as goal

pub returns-clause-possible : goal.returns-clause-possible
returns-clause-possible c = possible

pub returns-clause-named : goal.returns-clause-named
returns-clause-named c = only-replica-one

pub returns-clause-ends : goal.returns-clause-ends
returns-clause-ends c = corrupted-exits

pub returns-clause-covered : goal.returns-clause-covered
returns-clause-covered c = corrupted-still
