use Rattle.ro_legal.proofs.Lasting.{lease-stays}
use Rattle.ro_legal.proofs.laws.leases_last.Goals as goal

pub returns : goal.returns
returns c = lease-stays
