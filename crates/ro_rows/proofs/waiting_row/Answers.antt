-- The parts are lemmas.
use Rattle.ro_rows.proofs.WaitingRow.{waiting-legal, waiting-decides, waiting-steps, waiting-ideal}
use Rattle.ro_rows.proofs.waiting_row.Goals as goal

pub returns-clause-legal : goal.returns-clause-legal
returns-clause-legal c = waiting-legal

pub returns-clause-decides : goal.returns-clause-decides
returns-clause-decides c = waiting-decides

pub returns-clause-steps : goal.returns-clause-steps
returns-clause-steps c = waiting-steps

pub returns-clause-ideal : goal.returns-clause-ideal
returns-clause-ideal c = waiting-ideal
