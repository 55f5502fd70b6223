-- The two parts are lemmas.
use Rattle.ro_simulation.proofs.RowsStruck.{legal-two, not-apart}
use Rattle.ro_simulation.proofs.two_struck_row.Goals as goal

pub returns-clause-legal : goal.returns-clause-legal
returns-clause-legal c = legal-two

pub returns-clause-not_apart : goal.returns-clause-not_apart
returns-clause-not_apart c = not-apart
