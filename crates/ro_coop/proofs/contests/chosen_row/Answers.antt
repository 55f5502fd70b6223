-- The parts are lemmas.
use Rattle.ro_coop.proofs.Contested.{by-locks, by-trylock, by-wait}
use Rattle.ro_coop.proofs.contests.chosen_row.Goals as goal

pub returns-clause-by_locks : goal.returns-clause-by_locks
returns-clause-by_locks c = by-locks

pub returns-clause-by_trylock : goal.returns-clause-by_trylock
returns-clause-by_trylock c = by-trylock

pub returns-clause-by_wait : goal.returns-clause-by_wait
returns-clause-by_wait c = by-wait
