use Rattle.ro_legal.proofs.FaultStops.{fault-at}
use Rattle.ro_legal.proofs.laws.page_faults_wait.Goals as goal

pub returns : goal.returns
returns c job journal legal number thread page replica there stands = (fault-at job journal legal number thread page replica there stands).1
