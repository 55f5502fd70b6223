-- The parts are lemmas.
use Rattle.ro_rows.proofs.EdgeRows.{watch-driven, watch-legal, watch-next}
use Rattle.ro_rows.proofs.edges.watch_row.Goals as goal

pub returns-clause-driven_is : goal.returns-clause-driven_is
returns-clause-driven_is c = watch-driven

pub returns-clause-legal : goal.returns-clause-legal
returns-clause-legal c = watch-legal

pub returns-clause-next : goal.returns-clause-next
returns-clause-next c = watch-next
