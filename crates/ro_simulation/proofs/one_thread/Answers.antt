-- The law is a lemma.
use Rattle.ro_simulation.proofs.Laws.{alone-race-free}
use Rattle.ro_simulation.proofs.one_thread.Goals as goal

pub returns : goal.returns
returns c = alone-race-free
