use Rattle.ro_coop_lease.proofs.Lending.{can-go, may-return}
use Rattle.ro_coop_lease.proofs.laws.what_is_lent_may_return.Goals as goal

pub returns-clause-goes : goal.returns-clause-goes
returns-clause-goes c run lent quantum is = can-go run lent is quantum

pub returns-clause-returns : goal.returns-clause-returns
returns-clause-returns c run lent back old new quantum is gives now same out grows = may-return run lent is back old new gives quantum now same out grows
