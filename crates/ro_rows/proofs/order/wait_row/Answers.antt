use Rattle.ro_rows.proofs.RaceRows.{wait-plan, wait-syncs, wait-first, wait-second, wait-signal, wait-before-wait, wait-behind-wait}
use Rattle.ro_rows.proofs.order.wait_row.Goals as goal

pub returns-clause-plan : goal.returns-clause-plan
returns-clause-plan c = wait-plan

pub returns-clause-syncs : goal.returns-clause-syncs
returns-clause-syncs c = wait-syncs

pub returns-clause-first : goal.returns-clause-first
returns-clause-first c = wait-first

pub returns-clause-second : goal.returns-clause-second
returns-clause-second c = wait-second

pub returns-clause-signal : goal.returns-clause-signal
returns-clause-signal c = wait-signal

pub returns-clause-before_wait : goal.returns-clause-before_wait
returns-clause-before_wait c = wait-before-wait

pub returns-clause-behind_wait : goal.returns-clause-behind_wait
returns-clause-behind_wait c = wait-behind-wait
