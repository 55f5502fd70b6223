-- A lemma.
use Rattle.ro_coop.proofs.Steps.{steps-are-first}
use Rattle.ro_coop.proofs.runs.steps_are_first_steps.Goals as goal

pub returns : goal.returns
returns c = steps-are-first
