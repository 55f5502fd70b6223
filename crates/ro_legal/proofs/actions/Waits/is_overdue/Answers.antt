use Rattle.std.proofs.Common.{ap}
use Rattle.ro_legal.specs.Waits.{is_overdue}
use Rattle.ro_legal.proofs.actions.Waits.is_overdue.Goals as goal

pub returns : goal.returns
returns c = λ waited h. ap is_overdue (c.waited.ensures waited h)
