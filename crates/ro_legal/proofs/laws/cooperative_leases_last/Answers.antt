use Rattle.ro_legal.proofs.TogetherLeases.{lease-lasts}
use Rattle.ro_legal.proofs.TogetherRanks.{ranks-grow}
use Rattle.ro_legal.proofs.laws.cooperative_leases_last.Goals as goal

pub returns-clause-lasts : goal.returns-clause-lasts
returns-clause-lasts c = lease-lasts

pub returns-clause-ranks : goal.returns-clause-ranks
returns-clause-ranks c = ranks-grow
