use Rattle.ro_races.proofs.Deciding.{race-free-is}
use Rattle.ro_races.proofs.laws.races_of_executions.Goals as goal

pub returns : goal.returns
returns c = race-free-is
