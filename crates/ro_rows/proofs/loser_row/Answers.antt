-- The row is a lemma.
use Rattle.ro_rows.proofs.OtherRows.{loser-named}
use Rattle.ro_rows.proofs.loser_row.Goals as goal

pub returns : goal.returns
returns c = loser-named
