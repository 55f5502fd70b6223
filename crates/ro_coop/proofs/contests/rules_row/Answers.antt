-- The parts are lemmas.
use Rattle.ro_coop.proofs.Contested.{writers-free, writers-by-locks, writers-range, writers-legal, writers-in-rows, writers-not-in-rows, writers-end, writers-first, writers-steps}
use Rattle.ro_coop.proofs.contests.rules_row.Goals as goal

pub returns-clause-free : goal.returns-clause-free
returns-clause-free c = writers-free

pub returns-clause-by_locks : goal.returns-clause-by_locks
returns-clause-by_locks c = writers-by-locks

pub returns-clause-in_range : goal.returns-clause-in_range
returns-clause-in_range c = writers-range

pub returns-clause-legal : goal.returns-clause-legal
returns-clause-legal c = writers-legal

pub returns-clause-in_rows : goal.returns-clause-in_rows
returns-clause-in_rows c = writers-in-rows

pub returns-clause-of_others : goal.returns-clause-of_others
returns-clause-of_others c = writers-not-in-rows

pub returns-clause-comes_to : goal.returns-clause-comes_to
returns-clause-comes_to c = writers-end

pub returns-clause-first : goal.returns-clause-first
returns-clause-first c = writers-first

pub returns-clause-steps : goal.returns-clause-steps
returns-clause-steps c = writers-steps
