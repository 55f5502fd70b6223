-- The parts are lemmas.
use Rattle.ro_simulation.proofs.RowsScrub.{scrubbed-covered, unscrubbed-legal, unscrubbed-not-apart}
use Rattle.ro_simulation.proofs.scrubbed_row.Goals as goal

pub returns-clause-covered : goal.returns-clause-covered
returns-clause-covered c = scrubbed-covered

pub returns-clause-legal : goal.returns-clause-legal
returns-clause-legal c = unscrubbed-legal

pub returns-clause-not_apart : goal.returns-clause-not_apart
returns-clause-not_apart c = unscrubbed-not-apart
