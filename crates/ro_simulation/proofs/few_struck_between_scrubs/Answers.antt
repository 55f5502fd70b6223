-- The law is a lemma.
use Rattle.ro_simulation.proofs.Between.{between-apart}
use Rattle.ro_simulation.proofs.few_struck_between_scrubs.Goals as goal

pub returns : goal.returns
returns c = λ job journal free legal few. between-apart job free journal few legal
