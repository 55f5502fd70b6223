-- Each part is a lemma.
use Rattle.ro_locking.proofs.Adding.{gets_first, gets_more, gets_later}
use Rattle.ro_locking.proofs.laws.gets_add_up.Goals as goal

pub returns-clause-first : goal.returns-clause-first
returns-clause-first c = gets_first

pub returns-clause-more : goal.returns-clause-more
returns-clause-more c = gets_more

pub returns-clause-later : goal.returns-clause-later
returns-clause-later c = gets_later
