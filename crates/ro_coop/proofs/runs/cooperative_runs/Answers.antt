-- A lemma.
use Rattle.ro_coop.proofs.Whole.{runs-as-first}
use Rattle.ro_coop.proofs.runs.cooperative_runs.Goals as goal

pub returns : goal.returns
returns c = runs-as-first
