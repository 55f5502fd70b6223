-- The parts are lemmas.
use Rattle.ro_coop.proofs.Contested.{crossing-free, crossing-by-locks, crossing-range, crossing-legal, crossing-before, crossing-got, crossing-is-stuck, crossing-end, crossing-first}
use Rattle.ro_coop.proofs.contests.crossing_row.Goals as goal

pub returns-clause-free : goal.returns-clause-free
returns-clause-free c = crossing-free

pub returns-clause-by_locks : goal.returns-clause-by_locks
returns-clause-by_locks c = crossing-by-locks

pub returns-clause-in_range : goal.returns-clause-in_range
returns-clause-in_range c = crossing-range

pub returns-clause-legal : goal.returns-clause-legal
returns-clause-legal c = crossing-legal

pub returns-clause-before : goal.returns-clause-before
returns-clause-before c = crossing-before

pub returns-clause-got : goal.returns-clause-got
returns-clause-got c = crossing-got

pub returns-clause-stuck : goal.returns-clause-stuck
returns-clause-stuck c = crossing-is-stuck

pub returns-clause-comes_to : goal.returns-clause-comes_to
returns-clause-comes_to c = crossing-end

pub returns-clause-first : goal.returns-clause-first
returns-clause-first c = crossing-first
