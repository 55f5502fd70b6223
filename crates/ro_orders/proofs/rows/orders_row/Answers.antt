-- The parts are lemmas.
use Rattle.ro_orders.proofs.Worked.{order-one, order-other, kernel-one, kernel-other, no-other, counts-swapped, byte-one, byte-other}
use Rattle.ro_orders.proofs.rows.orders_row.Goals as goal

pub returns-clause-one : goal.returns-clause-one
returns-clause-one c = order-one

pub returns-clause-other : goal.returns-clause-other
returns-clause-other c = order-other

pub returns-clause-kernel : goal.returns-clause-kernel
returns-clause-kernel c = kernel-one

pub returns-clause-kernel_too : goal.returns-clause-kernel_too
returns-clause-kernel_too c = kernel-other

pub returns-clause-no_other : goal.returns-clause-no_other
returns-clause-no_other c = no-other

pub returns-clause-counts : goal.returns-clause-counts
returns-clause-counts c = counts-swapped

pub returns-clause-byte : goal.returns-clause-byte
returns-clause-byte c = byte-one

pub returns-clause-byte_too : goal.returns-clause-byte_too
returns-clause-byte_too c = byte-other
