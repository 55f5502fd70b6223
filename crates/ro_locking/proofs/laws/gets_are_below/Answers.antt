-- Each part is a lemma.
use Rattle.ro_locking.proofs.Below.{in_all_rows, are_below}
use Rattle.ro_locking.proofs.laws.gets_are_below.Goals as goal

pub returns-clause-in_rows : goal.returns-clause-in_rows
returns-clause-in_rows c = in_all_rows

pub returns-clause-under : goal.returns-clause-under
returns-clause-under c = are_below
