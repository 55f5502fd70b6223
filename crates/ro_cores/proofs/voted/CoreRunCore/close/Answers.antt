use Rattle.std.specs.Prelude.{None}
use Rattle.ro_cores.proofs.voted.CoreRunCore.close.Goals as goal

pub returns : goal.returns
returns c = ((λ m r. None), λ number one at. tt)
