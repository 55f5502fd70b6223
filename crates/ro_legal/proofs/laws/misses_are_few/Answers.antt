use Rattle.ro_legal.proofs.Misses.{few-parts, misses-are}
use Rattle.ro_legal.proofs.laws.misses_are_few.Goals as goal

pub returns-clause-few : goal.returns-clause-few
returns-clause-few c = few-parts

pub returns-clause-counted : goal.returns-clause-counted
returns-clause-counted c = misses-are
