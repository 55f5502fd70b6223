-- The parts are lemmas.
use Rattle.ro_rows.proofs.LostRow.{lost-driven, lost-legal, lost-ideal}
use Rattle.ro_rows.proofs.lost_row.Goals as goal

pub returns-clause-driven_is : goal.returns-clause-driven_is
returns-clause-driven_is c = lost-driven

pub returns-clause-legal : goal.returns-clause-legal
returns-clause-legal c = lost-legal

pub returns-clause-ideal : goal.returns-clause-ideal
returns-clause-ideal c = lost-ideal
