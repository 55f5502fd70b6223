-- The parts are lemmas.
use Rattle.ro_orders.proofs.Worked.{no-races, by-locks, counts-between, orders-between, runs-one, same-between}
use Rattle.ro_orders.proofs.rows.meeting_row.Goals as goal

pub returns-clause-free : goal.returns-clause-free
returns-clause-free c = no-races

pub returns-clause-by_locks : goal.returns-clause-by_locks
returns-clause-by_locks c = by-locks

pub returns-clause-counts : goal.returns-clause-counts
returns-clause-counts c = counts-between

pub returns-clause-orders : goal.returns-clause-orders
returns-clause-orders c = orders-between

pub returns-clause-runs : goal.returns-clause-runs
returns-clause-runs c = runs-one

pub returns-clause-same : goal.returns-clause-same
returns-clause-same c = same-between
