-- The parts are lemmas.
use Rattle.ro_rows.proofs.PairRow.{pair-driven, pair-legal, pair-ideal}
use Rattle.ro_rows.proofs.pair_row.Goals as goal

pub returns-clause-driven_is : goal.returns-clause-driven_is
returns-clause-driven_is c = pair-driven

pub returns-clause-legal : goal.returns-clause-legal
returns-clause-legal c = pair-legal

pub returns-clause-ideal : goal.returns-clause-ideal
returns-clause-ideal c = pair-ideal
