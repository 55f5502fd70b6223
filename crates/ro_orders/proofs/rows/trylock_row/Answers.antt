-- The parts are lemmas.
use Rattle.ro_orders.specs.Guests.{two_trylocks, two_waits}
use Rattle.ro_orders.proofs.Tables.{none-by-locks}
use Rattle.ro_orders.proofs.Worked.{has-trylock, has-wait}
use Rattle.ro_orders.proofs.rows.trylock_row.Goals as goal

pub returns-clause-trylock : goal.returns-clause-trylock
returns-clause-trylock c = has-trylock

pub returns-clause-wait : goal.returns-clause-wait
returns-clause-wait c = has-wait

pub returns-clause-no_mutex : goal.returns-clause-no_mutex
returns-clause-no_mutex c = (none-by-locks two_trylocks, none-by-locks two_waits)
