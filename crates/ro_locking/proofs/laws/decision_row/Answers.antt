-- They compute.
use Rattle.std.proofs.Common.{refl}
use Rattle.ro_locking.proofs.laws.decision_row.Goals as goal

pub returns-clause-first : goal.returns-clause-first
returns-clause-first c = refl

pub returns-clause-again : goal.returns-clause-again
returns-clause-again c = refl

pub returns-clause-other : goal.returns-clause-other
returns-clause-other c = refl

pub returns-clause-passed : goal.returns-clause-passed
returns-clause-passed c = refl
