-- The parts are lemmas.
use Rattle.ro_rows.proofs.EdgeRows.{differ-three, differ-two, differ-struck}
use Rattle.ro_rows.proofs.edges.differ_row.Goals as goal

pub returns-clause-three : goal.returns-clause-three
returns-clause-three c = differ-three

pub returns-clause-two : goal.returns-clause-two
returns-clause-two c = differ-two

pub returns-clause-struck : goal.returns-clause-struck
returns-clause-struck c = differ-struck
