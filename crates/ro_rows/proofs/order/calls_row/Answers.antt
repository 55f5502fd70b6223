-- The parts are lemmas.
use Rattle.ro_rows.proofs.RaceRows.{calls-syncs, calls-read, calls-write, calls-load, calls-store, calls-exit, calls-join, calls-trap}
use Rattle.ro_rows.proofs.order.calls_row.Goals as goal

pub returns-clause-syncs : goal.returns-clause-syncs
returns-clause-syncs c = calls-syncs

pub returns-clause-read : goal.returns-clause-read
returns-clause-read c = calls-read

pub returns-clause-write : goal.returns-clause-write
returns-clause-write c = calls-write

pub returns-clause-load : goal.returns-clause-load
returns-clause-load c = calls-load

pub returns-clause-store : goal.returns-clause-store
returns-clause-store c = calls-store

pub returns-clause-exit : goal.returns-clause-exit
returns-clause-exit c = calls-exit

pub returns-clause-join : goal.returns-clause-join
returns-clause-join c = calls-join

pub returns-clause-trap : goal.returns-clause-trap
returns-clause-trap c = calls-trap
