use Rattle.ro_rows.proofs.RaceRows.{mapping-syncs, mapping-given, mapping-refused, mapping-store}
use Rattle.ro_rows.proofs.order.mapping_row.Goals as goal

pub returns-clause-syncs : goal.returns-clause-syncs
returns-clause-syncs c = mapping-syncs

pub returns-clause-given : goal.returns-clause-given
returns-clause-given c = mapping-given

pub returns-clause-refused : goal.returns-clause-refused
returns-clause-refused c = mapping-refused

pub returns-clause-store : goal.returns-clause-store
returns-clause-store c = mapping-store
