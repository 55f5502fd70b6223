-- The parts are lemmas.
use Rattle.ro_rows.proofs.EdgeRows.{take-last, take-no-such, take-any-first, take-next, take-not-next}
use Rattle.ro_rows.proofs.edges.take_row.Goals as goal

pub returns-clause-last : goal.returns-clause-last
returns-clause-last c = take-last

pub returns-clause-no_such : goal.returns-clause-no_such
returns-clause-no_such c = take-no-such

pub returns-clause-any_first : goal.returns-clause-any_first
returns-clause-any_first c = take-any-first

pub returns-clause-next : goal.returns-clause-next
returns-clause-next c = take-next

pub returns-clause-not_next : goal.returns-clause-not_next
returns-clause-not_next c = take-not-next
