-- The law is a lemma.
use Rattle.ro_simulation.proofs.Laws.{few-struck-apart}
use Rattle.ro_simulation.proofs.few_struck_replicas.Goals as goal

pub returns : goal.returns
returns c = λ job journal free names. few-struck-apart job journal names free
