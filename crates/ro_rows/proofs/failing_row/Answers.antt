-- The parts are lemmas.
use Rattle.ro_rows.proofs.WriteRows.{failing-legal, failing-output, failing-ideal}
use Rattle.ro_rows.proofs.failing_row.Goals as goal

pub returns-clause-legal : goal.returns-clause-legal
returns-clause-legal c = failing-legal

pub returns-clause-output : goal.returns-clause-output
returns-clause-output c = failing-output

pub returns-clause-ideal : goal.returns-clause-ideal
returns-clause-ideal c = failing-ideal
