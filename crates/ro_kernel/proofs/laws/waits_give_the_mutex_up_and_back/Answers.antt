use Rattle.ro_kernel.proofs.Waiting.{wait-begun-well}
use Rattle.ro_kernel.proofs.laws.waits_give_the_mutex_up_and_back.Goals as goal

pub returns-clause-begun : goal.returns-clause-begun
returns-clause-begun c setup kernel after thread call e = wait-begun-well setup kernel thread call after e
