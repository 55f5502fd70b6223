use Rattle.ro_rows.proofs.TableRows.{ends-exit, ends-exit-group, ends-others}
use Rattle.ro_rows.proofs.tables.ends_row.Goals as goal

pub returns-clause-exit : goal.returns-clause-exit
returns-clause-exit c = ends-exit

pub returns-clause-exit_group : goal.returns-clause-exit_group
returns-clause-exit_group c = ends-exit-group

pub returns-clause-others : goal.returns-clause-others
returns-clause-others c = ends-others
