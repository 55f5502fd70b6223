use Rattle.std.proofs.Common.{inl}
use Rattle.ro_rows.proofs.EdgeRows.{due-deadlock-scrub, due-deadlock-not-next, due-deadlock-allowed, due-deadlock-behind}
use Rattle.ro_rows.proofs.edges.due_deadlock_row.Goals as goal

pub returns-clause-scrub : goal.returns-clause-scrub
returns-clause-scrub c = due-deadlock-scrub

pub returns-clause-not_next : goal.returns-clause-not_next
returns-clause-not_next c = due-deadlock-not-next

pub returns-clause-allowed : goal.returns-clause-allowed
returns-clause-allowed c = due-deadlock-allowed

pub returns-clause-behind : goal.returns-clause-behind
returns-clause-behind c = due-deadlock-behind

pub returns-clause-next : goal.returns-clause-next
returns-clause-next c = inl due-deadlock-behind
