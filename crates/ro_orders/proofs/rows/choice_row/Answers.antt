-- The parts are lemmas.
use Rattle.std.specs.Prelude.{Some, None}
use Rattle.ro_orders.proofs.Worked.{no-mutex, its-mutex, not-its-mutex}
use Rattle.ro_orders.proofs.rows.choice_row.Goals as goal

pub returns-clause-none : goal.returns-clause-none
returns-clause-none c = no-mutex

pub returns-clause-free : goal.returns-clause-free
returns-clause-free c = its-mutex None

pub returns-clause-owned : goal.returns-clause-owned
returns-clause-owned c = its-mutex (Some 1)

pub returns-clause-other : goal.returns-clause-other
returns-clause-other c = not-its-mutex
