-- The parts are lemmas.
use Rattle.ro_coop.proofs.Worked.{letters-free, letters-by-locks, is-legal, the-end, the-first, got-first, got-second, not-legal}
use Rattle.ro_coop.proofs.rows.letters_row.Goals as goal

pub returns-clause-free : goal.returns-clause-free
returns-clause-free c = letters-free

pub returns-clause-by_locks : goal.returns-clause-by_locks
returns-clause-by_locks c = letters-by-locks

pub returns-clause-legal : goal.returns-clause-legal
returns-clause-legal c = is-legal

pub returns-clause-comes_to : goal.returns-clause-comes_to
returns-clause-comes_to c = the-end

pub returns-clause-first : goal.returns-clause-first
returns-clause-first c = the-first

pub returns-clause-got : goal.returns-clause-got
returns-clause-got c = got-first

pub returns-clause-got_too : goal.returns-clause-got_too
returns-clause-got_too c = got-second

pub returns-clause-of_another : goal.returns-clause-of_another
returns-clause-of_another c = not-legal
