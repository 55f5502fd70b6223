-- The parts are lemmas.
use Rattle.ro_rows.proofs.ExitCovered.{exit-free, exit-covered}
use Rattle.ro_rows.proofs.exit_is_covered.Goals as goal

pub returns-clause-race_free : goal.returns-clause-race_free
returns-clause-race_free c = exit-free

pub returns-clause-covered : goal.returns-clause-covered
returns-clause-covered c = exit-covered
