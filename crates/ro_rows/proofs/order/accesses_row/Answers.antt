-- The parts are lemmas.
use Rattle.ro_rows.proofs.OrderRows.{create-accesses, lock-accesses, write-accesses, join-accesses}
use Rattle.ro_rows.proofs.order.accesses_row.Goals as goal

pub returns-clause-create : goal.returns-clause-create
returns-clause-create c = create-accesses

pub returns-clause-lock : goal.returns-clause-lock
returns-clause-lock c = lock-accesses

pub returns-clause-write : goal.returns-clause-write
returns-clause-write c = write-accesses

pub returns-clause-join : goal.returns-clause-join
returns-clause-join c = join-accesses
