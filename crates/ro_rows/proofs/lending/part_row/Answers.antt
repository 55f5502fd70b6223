use Rattle.ro_rows.proofs.LendRows.{part-code, part-no-put, part-data, part-wishes, part-again, part-sixteen, part-misses, part-home, part-put, part-no-part, part-early, part-struck}
use Rattle.ro_rows.proofs.lending.part_row.Goals as goal

pub returns-clause-code : goal.returns-clause-code
returns-clause-code c = part-code

pub returns-clause-no_put : goal.returns-clause-no_put
returns-clause-no_put c = part-no-put

pub returns-clause-data : goal.returns-clause-data
returns-clause-data c = part-data

pub returns-clause-wishes : goal.returns-clause-wishes
returns-clause-wishes c = part-wishes

pub returns-clause-again : goal.returns-clause-again
returns-clause-again c = part-again

pub returns-clause-sixteen : goal.returns-clause-sixteen
returns-clause-sixteen c = part-sixteen

pub returns-clause-misses : goal.returns-clause-misses
returns-clause-misses c = part-misses

pub returns-clause-home : goal.returns-clause-home
returns-clause-home c = part-home

pub returns-clause-put : goal.returns-clause-put
returns-clause-put c = part-put

pub returns-clause-no_part : goal.returns-clause-no_part
returns-clause-no_part c = part-no-part

pub returns-clause-early : goal.returns-clause-early
returns-clause-early c = part-early

pub returns-clause-struck : goal.returns-clause-struck
returns-clause-struck c = part-struck
