-- The parts are lemmas.
use Rattle.ro_rows.proofs.TableRows.{names-table, names-calls}
use Rattle.ro_rows.proofs.tables.names_row.Goals as goal

pub returns-clause-table : goal.returns-clause-table
returns-clause-table c = names-table

pub returns-clause-calls : goal.returns-clause-calls
returns-clause-calls c = names-calls
