use Rattle.ro_rows.proofs.EdgeRows.{snapshot-exited, snapshot-counts, snapshot-registers, snapshot-stops}
use Rattle.ro_rows.proofs.edges.snapshot_row.Goals as goal

pub returns-clause-exited : goal.returns-clause-exited
returns-clause-exited c = snapshot-exited

pub returns-clause-counts : goal.returns-clause-counts
returns-clause-counts c = snapshot-counts

pub returns-clause-registers : goal.returns-clause-registers
returns-clause-registers c = snapshot-registers

pub returns-clause-stops : goal.returns-clause-stops
returns-clause-stops c = snapshot-stops
