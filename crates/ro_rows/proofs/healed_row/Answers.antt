-- The parts are lemmas.
use Rattle.ro_rows.proofs.WriteRows.{healed-legal, healed-decides, healed-output, healed-ideal}
use Rattle.ro_rows.proofs.healed_row.Goals as goal

pub returns-clause-legal : goal.returns-clause-legal
returns-clause-legal c = healed-legal

pub returns-clause-decides : goal.returns-clause-decides
returns-clause-decides c = healed-decides

pub returns-clause-output : goal.returns-clause-output
returns-clause-output c = healed-output

pub returns-clause-ideal : goal.returns-clause-ideal
returns-clause-ideal c = healed-ideal
