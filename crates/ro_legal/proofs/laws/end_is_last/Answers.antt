use Rattle.ro_legal.proofs.Grants.{is-last}
use Rattle.ro_legal.proofs.laws.end_is_last.Goals as goal

pub returns : goal.returns
returns c = is-last
