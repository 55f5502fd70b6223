use Rattle.ro_rows.proofs.TableRows.{brk-low, brk-high}
use Rattle.ro_rows.proofs.tables.brk_row.Goals as goal

pub returns-clause-low : goal.returns-clause-low
returns-clause-low c = brk-low

pub returns-clause-high : goal.returns-clause-high
returns-clause-high c = brk-high
