use Rattle.ro_legal.proofs.Wanting.{no-three}
use Rattle.ro_legal.proofs.laws.no_three_parts.Goals as goal

pub returns : goal.returns
returns c = no-three
