-- A lemma.
use Rattle.ro_coop.proofs.Deadlocks.{real-deadlock}
use Rattle.ro_coop.proofs.runs.deadlocks_are_real.Goals as goal

pub returns : goal.returns
returns c = real-deadlock
