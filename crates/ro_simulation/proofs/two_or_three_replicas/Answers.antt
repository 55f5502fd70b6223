-- Each part is a lemma.
use Rattle.ro_simulation.proofs.AtMostOne.{apart-alone, few-are-one, one-of-few}
use Rattle.ro_simulation.proofs.two_or_three_replicas.Goals as goal

pub returns-clause-apart : goal.returns-clause-apart
returns-clause-apart c = apart-alone

pub returns-clause-differs : goal.returns-clause-differs
returns-clause-differs c = one-of-few

pub returns-clause-named : goal.returns-clause-named
returns-clause-named c = few-are-one
