-- The theorem is a lemma.
use Rattle.ro_simulation.proofs.Simulates.{simulates}
use Rattle.ro_simulation.proofs.simulation.Goals as goal

pub returns : goal.returns
returns c = simulates
