-- The parts are lemmas.
use Rattle.ro_rows.proofs.EdgeRows.{stuck-stuck, stuck-not-opening, stuck-not-going, stuck-not-lent, stuck-not-free, stuck-not-last}
use Rattle.ro_rows.proofs.edges.stuck_row.Goals as goal

pub returns-clause-stuck : goal.returns-clause-stuck
returns-clause-stuck c = stuck-stuck

pub returns-clause-not_opening : goal.returns-clause-not_opening
returns-clause-not_opening c = stuck-not-opening

pub returns-clause-not_going : goal.returns-clause-not_going
returns-clause-not_going c = stuck-not-going

pub returns-clause-not_lent : goal.returns-clause-not_lent
returns-clause-not_lent c = stuck-not-lent

pub returns-clause-not_free : goal.returns-clause-not_free
returns-clause-not_free c = stuck-not-free

pub returns-clause-not_last : goal.returns-clause-not_last
returns-clause-not_last c = stuck-not-last
