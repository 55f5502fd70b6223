-- The parts are lemmas.
use Rattle.ro_rows.proofs.EdgeRows.{vote-lent, vote-home, vote-either, vote-lowest, vote-not-higher, vote-may, vote-free, vote-not-next}
use Rattle.ro_rows.proofs.edges.vote_row.Goals as goal

pub returns-clause-lent : goal.returns-clause-lent
returns-clause-lent c = vote-lent

pub returns-clause-home : goal.returns-clause-home
returns-clause-home c = vote-home

pub returns-clause-either : goal.returns-clause-either
returns-clause-either c = vote-either

pub returns-clause-lowest : goal.returns-clause-lowest
returns-clause-lowest c = vote-lowest

pub returns-clause-not_higher : goal.returns-clause-not_higher
returns-clause-not_higher c = vote-not-higher

pub returns-clause-may : goal.returns-clause-may
returns-clause-may c = vote-may

pub returns-clause-free : goal.returns-clause-free
returns-clause-free c = vote-free

pub returns-clause-not_next : goal.returns-clause-not_next
returns-clause-not_next c = vote-not-next
