-- A lemma.
use Rattle.ro_coop.proofs.Rules.{is-execution}
use Rattle.ro_coop.proofs.runs.journals_are_executions.Goals as goal

pub returns : goal.returns
returns c = is-execution
