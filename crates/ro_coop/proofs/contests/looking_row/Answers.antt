-- The parts are lemmas.
use Rattle.ro_coop.proofs.Looking.{looking-legal, gives-way, waits-lent, given-up, not-given-up, asked-lent, asked-lent-too, asked-kept, asked-kept-too, got-legal, got-lent, got-own, got-behind}
use Rattle.ro_coop.proofs.contests.looking_row.Goals as goal

pub returns-clause-legal : goal.returns-clause-legal
returns-clause-legal c = looking-legal

pub returns-clause-gives_way : goal.returns-clause-gives_way
returns-clause-gives_way c = gives-way

pub returns-clause-waits : goal.returns-clause-waits
returns-clause-waits c = waits-lent

pub returns-clause-given_up : goal.returns-clause-given_up
returns-clause-given_up c = given-up

pub returns-clause-not_given_up : goal.returns-clause-not_given_up
returns-clause-not_given_up c = not-given-up

pub returns-clause-asked : goal.returns-clause-asked
returns-clause-asked c = asked-lent

pub returns-clause-asked_too : goal.returns-clause-asked_too
returns-clause-asked_too c = asked-lent-too

pub returns-clause-kept : goal.returns-clause-kept
returns-clause-kept c = asked-kept

pub returns-clause-kept_too : goal.returns-clause-kept_too
returns-clause-kept_too c = asked-kept-too

pub returns-clause-also_legal : goal.returns-clause-also_legal
returns-clause-also_legal c = got-legal

pub returns-clause-got : goal.returns-clause-got
returns-clause-got c = got-lent

pub returns-clause-its_own : goal.returns-clause-its_own
returns-clause-its_own c = got-own

pub returns-clause-behind_it : goal.returns-clause-behind_it
returns-clause-behind_it c = got-behind
