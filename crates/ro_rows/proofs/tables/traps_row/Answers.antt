-- The parts are lemmas.
use Rattle.ro_rows.proofs.TableRows.{traps-traps, traps-numbers}
use Rattle.ro_rows.proofs.tables.traps_row.Goals as goal

pub returns : goal.returns
returns c = record { traps = traps-traps; numbers = traps-numbers }
