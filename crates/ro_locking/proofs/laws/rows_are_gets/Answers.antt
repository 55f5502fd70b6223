-- Each part is a lemma.
use Rattle.ro_locking.proofs.Closing.{gets_in_rows, rows_got}
use Rattle.ro_locking.proofs.laws.rows_are_gets.Goals as goal

pub returns-clause-in_rows : goal.returns-clause-in_rows
returns-clause-in_rows c = gets_in_rows

pub returns-clause-all_got : goal.returns-clause-all_got
returns-clause-all_got c = rows_got
