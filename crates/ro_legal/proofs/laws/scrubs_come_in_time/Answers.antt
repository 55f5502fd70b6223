use Rattle.ro_legal.proofs.InTime.{in-time}
use Rattle.ro_legal.proofs.laws.scrubs_come_in_time.Goals as goal

pub returns : goal.returns
returns c = in-time
