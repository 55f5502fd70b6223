use Rattle.ro_coop_lease.proofs.Lending.{adds-up}
use Rattle.ro_coop_lease.proofs.laws.what_was_got_is_known.Goals as goal

pub returns : goal.returns
returns c run lent back old new gets is gives got = adds-up run lent is back old new gives gets got
