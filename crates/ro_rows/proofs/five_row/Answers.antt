-- The parts are lemmas.
use Rattle.ro_rows.proofs.FiveRow.{five-legal, five-decides}
use Rattle.ro_rows.proofs.five_row.Goals as goal

pub returns-clause-legal : goal.returns-clause-legal
returns-clause-legal c = five-legal

pub returns-clause-decides : goal.returns-clause-decides
returns-clause-decides c = five-decides
