-- The row is a lemma.
use Rattle.ro_orders.proofs.Worked.{turns-are}
use Rattle.ro_orders.proofs.rows.turns_row.Goals as goal

pub returns : goal.returns
returns c = turns-are
