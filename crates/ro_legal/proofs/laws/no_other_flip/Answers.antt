use Rattle.ro_legal.proofs.Retired.{no-flip}
use Rattle.ro_legal.proofs.laws.no_other_flip.Goals as goal

pub returns : goal.returns
returns c = no-flip
