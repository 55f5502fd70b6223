-- The law is a lemma.
use Rattle.ro_orders.proofs.Tables.{lacks-by-table}
use Rattle.ro_orders.proofs.lacks_by_table.Goals as goal

pub returns : goal.returns
returns c program chosen lacks = lacks-by-table program chosen lacks
