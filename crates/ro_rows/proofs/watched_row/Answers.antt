-- The parts are lemmas.
use Rattle.ro_rows.proofs.WatchedRow.{watched-legal, watched-decides}
use Rattle.ro_rows.proofs.watched_row.Goals as goal

pub returns-clause-legal : goal.returns-clause-legal
returns-clause-legal c = watched-legal

pub returns-clause-decides : goal.returns-clause-decides
returns-clause-decides c = watched-decides
