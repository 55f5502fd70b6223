-- The parts are lemmas.
use Rattle.ro_rows.proofs.DeadlockRow.{deadlock-driven, deadlock-legal, deadlock-ideal}
use Rattle.ro_rows.proofs.deadlock_row.Goals as goal

pub returns-clause-driven_is : goal.returns-clause-driven_is
returns-clause-driven_is c = deadlock-driven

pub returns-clause-legal : goal.returns-clause-legal
returns-clause-legal c = deadlock-legal

pub returns-clause-ideal : goal.returns-clause-ideal
returns-clause-ideal c = deadlock-ideal
