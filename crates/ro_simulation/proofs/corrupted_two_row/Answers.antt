-- They are computed.
use Rattle.ro_simulation.proofs.RowsCorruptedTwo.{possible-two, only-two, two-exit, two-still}
use Rattle.ro_simulation.proofs.corrupted_two_row.Goals as goal

pub returns-clause-possible : goal.returns-clause-possible
returns-clause-possible c = possible-two

pub returns-clause-named : goal.returns-clause-named
returns-clause-named c = only-two

pub returns-clause-ends : goal.returns-clause-ends
returns-clause-ends c = two-exit

pub returns-clause-covered : goal.returns-clause-covered
returns-clause-covered c = two-still
