-- The parts are lemmas.
use Rattle.ro_rows.proofs.AtomicRow.{atomic-legal, atomic-decides, atomic-ideal}
use Rattle.ro_rows.proofs.atomic_row.Goals as goal

pub returns-clause-legal : goal.returns-clause-legal
returns-clause-legal c = atomic-legal

pub returns-clause-decides : goal.returns-clause-decides
returns-clause-decides c = atomic-decides

pub returns-clause-ideal : goal.returns-clause-ideal
returns-clause-ideal c = atomic-ideal
