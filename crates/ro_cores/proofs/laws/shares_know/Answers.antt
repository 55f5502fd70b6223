-- Each part is a lemma.
use Rattle.ro_cores.proofs.Knowing.{knows-nothing, knows-others, knows-own, knows-returns, knows-join}
use Rattle.ro_cores.proofs.laws.shares_know.Goals as goal

pub returns-clause-nothing : goal.returns-clause-nothing
returns-clause-nothing c = knows-nothing

pub returns-clause-others : goal.returns-clause-others
returns-clause-others c = knows-others

pub returns-clause-own : goal.returns-clause-own
returns-clause-own c = knows-own

pub returns-clause-returns : goal.returns-clause-returns
returns-clause-returns c = knows-returns

pub returns-clause-join : goal.returns-clause-join
returns-clause-join c = knows-join
