-- The parts are lemmas.
use Rattle.ro_rows.proofs.EdgeRows.{sink-none, sink-all-but-one, sink-all, sink-later}
use Rattle.ro_rows.proofs.edges.sink_row.Goals as goal

pub returns-clause-none : goal.returns-clause-none
returns-clause-none c = sink-none

pub returns-clause-all_but_one : goal.returns-clause-all_but_one
returns-clause-all_but_one c = sink-all-but-one

pub returns-clause-all : goal.returns-clause-all
returns-clause-all c = sink-all

pub returns-clause-later : goal.returns-clause-later
returns-clause-later c = sink-later
