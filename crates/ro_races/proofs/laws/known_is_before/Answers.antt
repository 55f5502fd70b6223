use Rattle.ro_races.proofs.Before.{before-is}
use Rattle.ro_races.proofs.laws.known_is_before.Goals as goal

pub returns : goal.returns
returns c program threads place thread there earlier = before-is program threads place thread there earlier
