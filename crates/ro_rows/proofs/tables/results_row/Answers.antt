-- The parts are lemmas.
use Rattle.ro_rows.proofs.TableRows.{results-values, results-atomic}
use Rattle.ro_rows.proofs.tables.results_row.Goals as goal

pub returns-clause-values : goal.returns-clause-values
returns-clause-values c = results-values

pub returns-clause-atomic : goal.returns-clause-atomic
returns-clause-atomic c = results-atomic
