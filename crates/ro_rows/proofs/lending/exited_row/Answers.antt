use Rattle.ro_rows.proofs.LendRows.{exited-beside, exited-allowed, exited-exited, exited-no-stop, exited-whole}
use Rattle.ro_rows.proofs.lending.exited_row.Goals as goal

pub returns-clause-beside : goal.returns-clause-beside
returns-clause-beside c = exited-beside

pub returns-clause-allowed : goal.returns-clause-allowed
returns-clause-allowed c = exited-allowed

pub returns-clause-exited : goal.returns-clause-exited
returns-clause-exited c = exited-exited

pub returns-clause-no_stop : goal.returns-clause-no_stop
returns-clause-no_stop c = exited-no-stop

pub returns-clause-whole : goal.returns-clause-whole
returns-clause-whole c = exited-whole
