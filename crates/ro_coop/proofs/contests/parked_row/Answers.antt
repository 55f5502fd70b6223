-- The parts are lemmas.
use Rattle.ro_coop.proofs.Contested.{lent-asked, lent-got, lent-owned, lent-row, lent-wrote, lent-freed, lent-not-yet, lent-freed-too, comes-there, own-lock}
use Rattle.ro_coop.proofs.contests.parked_row.Goals as goal

pub returns-clause-asked : goal.returns-clause-asked
returns-clause-asked c = lent-asked

pub returns-clause-got : goal.returns-clause-got
returns-clause-got c = lent-got

pub returns-clause-owned : goal.returns-clause-owned
returns-clause-owned c = lent-owned

pub returns-clause-of_another : goal.returns-clause-of_another
returns-clause-of_another c = lent-row

pub returns-clause-owned_then : goal.returns-clause-owned_then
returns-clause-owned_then c = lent-wrote

pub returns-clause-freed : goal.returns-clause-freed
returns-clause-freed c = lent-freed

pub returns-clause-not_yet : goal.returns-clause-not_yet
returns-clause-not_yet c = lent-not-yet

pub returns-clause-freed_too : goal.returns-clause-freed_too
returns-clause-freed_too c = lent-freed-too

pub returns-clause-comes_there : goal.returns-clause-comes_there
returns-clause-comes_there c = comes-there

pub returns-clause-its_own : goal.returns-clause-its_own
returns-clause-its_own c = own-lock
