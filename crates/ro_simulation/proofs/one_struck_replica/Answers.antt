-- The law is a lemma.
use Rattle.ro_simulation.proofs.Laws.{one-struck-alone}
use Rattle.ro_simulation.proofs.one_struck_replica.Goals as goal

pub returns : goal.returns
returns c = one-struck-alone
