-- The parts are lemmas.
use Rattle.std.proofs.Common.{refl}
use Rattle.ro_rows.proofs.OrderRows.{plan-is, syncs-are}
use Rattle.ro_rows.proofs.order.sync_row.Goals as goal

pub returns-clause-plan : goal.returns-clause-plan
returns-clause-plan c = plan-is

pub returns-clause-steps : goal.returns-clause-steps
returns-clause-steps c = refl

pub returns-clause-syncs : goal.returns-clause-syncs
returns-clause-syncs c = syncs-are
