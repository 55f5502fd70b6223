use Rattle.ro_legal.proofs.Grants.{one-grant}
use Rattle.ro_legal.proofs.laws.one_grant_order.Goals as goal

pub returns : goal.returns
returns c = one-grant
