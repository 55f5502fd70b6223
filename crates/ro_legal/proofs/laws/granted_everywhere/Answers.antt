use Rattle.ro_legal.proofs.Released.{goes-on-everywhere}
use Rattle.ro_legal.proofs.laws.granted_everywhere.Goals as goal

pub returns : goal.returns
returns c = goes-on-everywhere
