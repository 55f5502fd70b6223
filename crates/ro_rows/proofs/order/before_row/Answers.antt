-- The parts are lemmas.
use Rattle.ro_rows.proofs.OrderRows.{chained, created, was-joined, not-back}
use Rattle.ro_rows.proofs.order.before_row.Goals as goal

pub returns-clause-chain : goal.returns-clause-chain
returns-clause-chain c = chained

pub returns-clause-creation : goal.returns-clause-creation
returns-clause-creation c = created

pub returns-clause-join : goal.returns-clause-join
returns-clause-join c = was-joined

pub returns-clause-not_back : goal.returns-clause-not_back
returns-clause-not_back c = not-back
