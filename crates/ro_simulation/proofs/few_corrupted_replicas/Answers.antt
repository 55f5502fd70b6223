-- They are lemmas.
use Rattle.ro_simulation.proofs.Corruptions.{named-apart, writes-named}
use Rattle.ro_simulation.proofs.few_corrupted_replicas.Goals as goal

pub returns-clause-apart : goal.returns-clause-apart
returns-clause-apart c = λ job moments named free possible few only. named-apart job free moments named few only possible

pub returns-clause-writes : goal.returns-clause-writes
returns-clause-writes c = λ job moments named free count possible few only. writes-named job free count moments named few only possible
