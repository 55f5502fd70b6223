-- The law is a lemma.
use Rattle.ro_orders.proofs.Tables.{chosen-by-locks}
use Rattle.ro_orders.proofs.chosen_by_locks.Goals as goal

pub returns : goal.returns
returns c program = chosen-by-locks program
