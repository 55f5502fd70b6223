-- The parts are lemmas.
use Rattle.ro_rows.proofs.RaceRows.{atomics-syncs, atomics-load, atomics-store, atomics-fails, atomics-adds}
use Rattle.ro_rows.proofs.order.atomics_row.Goals as goal

pub returns-clause-syncs : goal.returns-clause-syncs
returns-clause-syncs c = atomics-syncs

pub returns-clause-load : goal.returns-clause-load
returns-clause-load c = atomics-load

pub returns-clause-store : goal.returns-clause-store
returns-clause-store c = atomics-store

pub returns-clause-fails : goal.returns-clause-fails
returns-clause-fails c = atomics-fails

pub returns-clause-adds : goal.returns-clause-adds
returns-clause-adds c = atomics-adds
