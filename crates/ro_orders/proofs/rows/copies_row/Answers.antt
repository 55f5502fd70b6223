-- The parts are lemmas.
use Rattle.ro_orders.proofs.Worked.{two-copies, out-of-turn}
use Rattle.ro_orders.proofs.rows.copies_row.Goals as goal

pub returns-clause-runs : goal.returns-clause-runs
returns-clause-runs c = two-copies

pub returns-clause-out_of_turn : goal.returns-clause-out_of_turn
returns-clause-out_of_turn c = out-of-turn
