-- The parts are lemmas.
use Rattle.ro_rows.proofs.EdgeRows.{waiters-legal, waiters-wait, waiters-wait-too, waiters-may, waiters-may-too, waiters-lowest, waiters-early, waiters-overdue, waiters-longer, waiters-shorter, waiters-alike, waiters-then-waits, waiters-lent}
use Rattle.ro_rows.proofs.edges.waiters_row.Goals as goal

pub returns-clause-legal : goal.returns-clause-legal
returns-clause-legal c = waiters-legal

pub returns-clause-wait : goal.returns-clause-wait
returns-clause-wait c = waiters-wait

pub returns-clause-wait_too : goal.returns-clause-wait_too
returns-clause-wait_too c = waiters-wait-too

pub returns-clause-may : goal.returns-clause-may
returns-clause-may c = waiters-may

pub returns-clause-may_too : goal.returns-clause-may_too
returns-clause-may_too c = waiters-may-too

pub returns-clause-lowest : goal.returns-clause-lowest
returns-clause-lowest c = waiters-lowest

pub returns-clause-then_waits : goal.returns-clause-then_waits
returns-clause-then_waits c = waiters-then-waits

pub returns-clause-lent : goal.returns-clause-lent
returns-clause-lent c = waiters-lent

pub returns-clause-early : goal.returns-clause-early
returns-clause-early c = waiters-early

pub returns-clause-overdue : goal.returns-clause-overdue
returns-clause-overdue c = waiters-overdue

pub returns-clause-longer : goal.returns-clause-longer
returns-clause-longer c = waiters-longer

pub returns-clause-shorter : goal.returns-clause-shorter
returns-clause-shorter c = waiters-shorter

pub returns-clause-alike : goal.returns-clause-alike
returns-clause-alike c = waiters-alike
