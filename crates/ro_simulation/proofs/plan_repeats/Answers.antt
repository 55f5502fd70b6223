-- It follows from the headline.
use Rattle.ro_simulation.proofs.Simulates.{simulates}
use Rattle.ro_simulation.proofs.Laws.{writes-as-ideal}
use Rattle.ro_simulation.proofs.Repeats.{is-repeated}
use Rattle.ro_simulation.proofs.plan_repeats.Goals as goal

pub returns : goal.returns
returns c = λ job journal free count legal apart how outcome whole. is-repeated job journal how (writes-as-ideal job journal (simulates job journal free count legal apart)) outcome whole
