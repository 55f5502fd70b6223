-- The parts are lemmas.
use Rattle.ro_rows.proofs.RaceRows.{races-races, races-by-creation, races-by-join, races-by-mutex}
use Rattle.ro_rows.proofs.order.races_row.Goals as goal

pub returns-clause-races : goal.returns-clause-races
returns-clause-races c = races-races

pub returns-clause-by_creation : goal.returns-clause-by_creation
returns-clause-by_creation c = races-by-creation

pub returns-clause-by_join : goal.returns-clause-by_join
returns-clause-by_join c = races-by-join

pub returns-clause-by_mutex : goal.returns-clause-by_mutex
returns-clause-by_mutex c = races-by-mutex
