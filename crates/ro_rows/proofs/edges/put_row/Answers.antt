-- The parts are lemmas.
use Rattle.ro_rows.proofs.EdgeRows.{put-at-stop, put-early, put-late, put-another, put-unstruck}
use Rattle.ro_rows.proofs.edges.put_row.Goals as goal

pub returns-clause-at_stop : goal.returns-clause-at_stop
returns-clause-at_stop c = put-at-stop

pub returns-clause-early : goal.returns-clause-early
returns-clause-early c = put-early

pub returns-clause-late : goal.returns-clause-late
returns-clause-late c = put-late

pub returns-clause-another : goal.returns-clause-another
returns-clause-another c = put-another

pub returns-clause-unstruck : goal.returns-clause-unstruck
returns-clause-unstruck c = put-unstruck
