use Rattle.ro_legal.proofs.Together.{keeps-replicas}
use Rattle.ro_legal.proofs.laws.cooperative_journals_keep_replicas.Goals as goal

pub returns : goal.returns
returns c = keeps-replicas
