use Rattle.ro_legal.proofs.Bounded.{waits-bounded}
use Rattle.ro_legal.proofs.laws.waits_are_bounded.Goals as goal

pub returns : goal.returns
returns c = waits-bounded
