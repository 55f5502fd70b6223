-- The law is a lemma.
use Rattle.ro_simulation.proofs.Limits.{limit-passed}
use Rattle.ro_simulation.proofs.limit_is_passed.Goals as goal

pub returns : goal.returns
returns c = limit-passed
