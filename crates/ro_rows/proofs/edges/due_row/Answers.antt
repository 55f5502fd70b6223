use Rattle.ro_rows.proofs.EdgeRows.{due-lent, due-lendable, due-still, due-never, due-early, due-due, due-before, due-lends, due-waits, due-not-freed}
use Rattle.ro_rows.proofs.edges.due_row.Goals as goal

pub returns-clause-lent : goal.returns-clause-lent
returns-clause-lent c = due-lent

pub returns-clause-lendable : goal.returns-clause-lendable
returns-clause-lendable c = due-lendable

pub returns-clause-still : goal.returns-clause-still
returns-clause-still c = due-still

pub returns-clause-never : goal.returns-clause-never
returns-clause-never c = due-never

pub returns-clause-early : goal.returns-clause-early
returns-clause-early c = due-early

pub returns-clause-due : goal.returns-clause-due
returns-clause-due c = due-due

pub returns-clause-before : goal.returns-clause-before
returns-clause-before c = due-before

pub returns-clause-lends : goal.returns-clause-lends
returns-clause-lends c = due-lends

pub returns-clause-waits : goal.returns-clause-waits
returns-clause-waits c = due-waits

pub returns-clause-not_freed : goal.returns-clause-not_freed
returns-clause-not_freed c = due-not-freed
