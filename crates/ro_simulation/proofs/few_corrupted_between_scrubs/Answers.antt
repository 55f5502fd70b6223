-- They are lemmas.
use Rattle.ro_simulation.proofs.CorruptedBetween.{between-apart, writes-between}
use Rattle.ro_simulation.proofs.few_corrupted_between_scrubs.Goals as goal

pub returns-clause-apart : goal.returns-clause-apart
returns-clause-apart c = λ job moments free possible few. between-apart job moments few free possible

pub returns-clause-writes : goal.returns-clause-writes
returns-clause-writes c = λ job moments free count possible few. writes-between job moments few free count possible
