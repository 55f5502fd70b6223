-- It is part of the simulation theorem.
use Rattle.ro_simulation.proofs.Simulates.{simulates}
use Rattle.ro_simulation.proofs.Laws.{writes-as-ideal}
use Rattle.ro_simulation.proofs.headline.Goals as goal

pub returns : goal.returns
returns c = λ job journal free count legal apart. writes-as-ideal job journal (simulates job journal free count legal apart)
