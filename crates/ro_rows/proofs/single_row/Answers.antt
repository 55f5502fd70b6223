-- The parts are lemmas.
use Rattle.ro_rows.proofs.SingleRow.{single-length, single-legal, single-decides}
use Rattle.ro_rows.proofs.single_row.Goals as goal

pub returns-clause-count : goal.returns-clause-count
returns-clause-count c = single-length

pub returns-clause-legal : goal.returns-clause-legal
returns-clause-legal c = single-legal

pub returns-clause-decides : goal.returns-clause-decides
returns-clause-decides c = single-decides
