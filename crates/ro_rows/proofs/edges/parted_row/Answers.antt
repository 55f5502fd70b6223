-- The parts are lemmas.
use Rattle.ro_rows.proofs.EdgeRows.{parted-two, parted-two-majority, parted-three, parted-three-differ}
use Rattle.ro_rows.proofs.edges.parted_row.Goals as goal

pub returns-clause-two : goal.returns-clause-two
returns-clause-two c = parted-two

pub returns-clause-two_majority : goal.returns-clause-two_majority
returns-clause-two_majority c = parted-two-majority

pub returns-clause-three : goal.returns-clause-three
returns-clause-three c = parted-three

pub returns-clause-three_differ : goal.returns-clause-three_differ
returns-clause-three_differ c = parted-three-differ
