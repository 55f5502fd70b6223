use Rattle.ro_legal.proofs.Nexts.{outwaited_voted, outwaited_lent, outwaited_freed}
use Rattle.ro_legal.proofs.laws.who_waited_comes_first.Goals as goal

pub returns-clause-vote : goal.returns-clause-vote
returns-clause-vote c = outwaited_voted

pub returns-clause-free : goal.returns-clause-free
returns-clause-free c = outwaited_freed

pub returns-clause-lend : goal.returns-clause-lend
returns-clause-lend c = outwaited_lent
