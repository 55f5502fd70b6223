-- The parts are lemmas.
use Rattle.ro_rows.proofs.EdgeRows.{length-three, length-not-two}
use Rattle.ro_rows.proofs.edges.length_row.Goals as goal

pub returns-clause-three : goal.returns-clause-three
returns-clause-three c = length-three

pub returns-clause-not_two : goal.returns-clause-not_two
returns-clause-not_two c = length-not-two
