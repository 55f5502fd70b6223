-- The law is a lemma.
use Rattle.ro_simulation.proofs.Laws.{never-differs}
use Rattle.ro_simulation.proofs.no_fault.Goals as goal

pub returns : goal.returns
returns c = λ job journal free none legal. never-differs job journal free none legal
