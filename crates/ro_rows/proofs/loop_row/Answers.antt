-- The row is a lemma.
use Rattle.ro_rows.proofs.OtherRows.{loop-runs}
use Rattle.ro_rows.proofs.loop_row.Goals as goal

pub returns : goal.returns
returns c = loop-runs
