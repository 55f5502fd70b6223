-- The parts are lemmas.
use Rattle.ro_coop.proofs.Worked.{reserved-then, reserved-for, reserved-other, reserved-settled, fails, succeeds}
use Rattle.ro_coop.proofs.rows.reservation_row.Goals as goal

pub returns-clause-seen : goal.returns-clause-seen
returns-clause-seen c = reserved-then

pub returns-clause-ended : goal.returns-clause-ended
returns-clause-ended c = reserved-for

pub returns-clause-other : goal.returns-clause-other
returns-clause-other c = reserved-other

pub returns-clause-same : goal.returns-clause-same
returns-clause-same c = reserved-settled

pub returns-clause-fails : goal.returns-clause-fails
returns-clause-fails c = fails

pub returns-clause-succeeds : goal.returns-clause-succeeds
returns-clause-succeeds c = succeeds
