-- Each part is a lemma.
use Rattle.ro_locking.proofs.Adding.{numbers_entered, numbers_ran}
use Rattle.ro_locking.proofs.laws.numbers_stay.Goals as goal

pub returns-clause-entered : goal.returns-clause-entered
returns-clause-entered c = numbers_entered

pub returns-clause-ran : goal.returns-clause-ran
returns-clause-ran c = numbers_ran
