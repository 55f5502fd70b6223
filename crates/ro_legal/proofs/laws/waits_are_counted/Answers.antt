use Rattle.ro_legal.proofs.Waiting.{waited-is}
use Rattle.ro_legal.proofs.laws.waits_are_counted.Goals as goal

pub returns : goal.returns
returns c = waited-is
