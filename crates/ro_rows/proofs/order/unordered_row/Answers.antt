-- The parts are lemmas.
use Rattle.ro_rows.proofs.RaceRows.{unordered-creation, unordered-other-creation, unordered-exit, unordered-other-exit, unordered-mutexes, unordered-other-mutex, unordered-races}
use Rattle.ro_rows.proofs.order.unordered_row.Goals as goal

pub returns-clause-creation : goal.returns-clause-creation
returns-clause-creation c = unordered-creation

pub returns-clause-other_creation : goal.returns-clause-other_creation
returns-clause-other_creation c = unordered-other-creation

pub returns-clause-exit : goal.returns-clause-exit
returns-clause-exit c = unordered-exit

pub returns-clause-other_exit : goal.returns-clause-other_exit
returns-clause-other_exit c = unordered-other-exit

pub returns-clause-mutexes : goal.returns-clause-mutexes
returns-clause-mutexes c = unordered-mutexes

pub returns-clause-other_mutex : goal.returns-clause-other_mutex
returns-clause-other_mutex c = unordered-other-mutex

pub returns-clause-races : goal.returns-clause-races
returns-clause-races c = unordered-races
