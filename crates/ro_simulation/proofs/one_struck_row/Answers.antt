-- The row is a lemma.
use Rattle.ro_simulation.proofs.RowsStruck.{one-struck-covered}
use Rattle.ro_simulation.proofs.one_struck_row.Goals as goal

pub returns : goal.returns
returns c = one-struck-covered
