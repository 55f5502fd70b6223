-- They compute.
use Rattle.std.proofs.Common.{refl}
use Rattle.ro_locking.proofs.laws.ceiling_row.Goals as goal

pub returns-clause-under : goal.returns-clause-under
returns-clause-under c rows = refl

pub returns-clause-at : goal.returns-clause-at
returns-clause-at c rows = refl

pub returns-clause-none : goal.returns-clause-none
returns-clause-none c rows = refl
