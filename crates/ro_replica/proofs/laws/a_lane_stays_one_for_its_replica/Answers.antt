use Rattle.ro_replica.proofs.Pools.{for-lent, for-same, for-wider}
use Rattle.ro_replica.proofs.laws.a_lane_stays_one_for_its_replica.Goals as goal

pub returns-clause-lent : goal.returns-clause-lent
returns-clause-lent c = for-lent

pub returns-clause-same : goal.returns-clause-same
returns-clause-same c = for-same

pub returns-clause-wider : goal.returns-clause-wider
returns-clause-wider c = for-wider
