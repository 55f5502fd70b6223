use Rattle.ro_legal.proofs.Mutexes.{mutexes-kept}
use Rattle.ro_legal.proofs.laws.cooperative_journals_keep_mutexes.Goals as goal

pub returns : goal.returns
returns c = mutexes-kept
