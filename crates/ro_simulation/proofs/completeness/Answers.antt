-- The law is a lemma.
use Rattle.ro_simulation.proofs.Limits.{ends-complete}
use Rattle.ro_simulation.proofs.completeness.Goals as goal

pub returns : goal.returns
returns c = λ job journal free count legal apart ends cannot. ends-complete job journal free legal apart ends cannot count
