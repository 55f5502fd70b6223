-- The parts are lemmas.
use Rattle.ro_rows.proofs.HiddenRow.{hidden-race-free, hidden-legal, hidden-decides, hidden-output, hidden-ideal, hidden-no-front, hidden-not-apart}
use Rattle.ro_rows.proofs.hidden_row.Goals as goal

pub returns-clause-race_free : goal.returns-clause-race_free
returns-clause-race_free c = hidden-race-free

pub returns-clause-legal : goal.returns-clause-legal
returns-clause-legal c = hidden-legal

pub returns-clause-decides : goal.returns-clause-decides
returns-clause-decides c = hidden-decides

pub returns-clause-output : goal.returns-clause-output
returns-clause-output c = hidden-output

pub returns-clause-ideal : goal.returns-clause-ideal
returns-clause-ideal c = hidden-ideal

pub returns-clause-no_front : goal.returns-clause-no_front
returns-clause-no_front c = hidden-no-front

pub returns-clause-not_apart : goal.returns-clause-not_apart
returns-clause-not_apart c = hidden-not-apart
