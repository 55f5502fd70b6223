-- The parts are lemmas.
use Rattle.ro_rows.proofs.PageRow.{page-legal, page-decides, page-ideal}
use Rattle.ro_rows.proofs.page_row.Goals as goal

pub returns-clause-legal : goal.returns-clause-legal
returns-clause-legal c = page-legal

pub returns-clause-decides : goal.returns-clause-decides
returns-clause-decides c = page-decides

pub returns-clause-ideal : goal.returns-clause-ideal
returns-clause-ideal c = page-ideal
