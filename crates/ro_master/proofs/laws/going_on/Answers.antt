use Rattle.ro_master.proofs.Turns.{goes_none, goes_on}
use Rattle.ro_master.proofs.laws.going_on.Goals as goal

pub returns-clause-none : goal.returns-clause-none
returns-clause-none c = goes_none

pub returns-clause-twice : goal.returns-clause-twice
returns-clause-twice c = goes_on
