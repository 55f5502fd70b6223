use Rattle.ro_replica.proofs.Targets.{stop_set}
use Rattle.ro_replica.proofs.replicas.Replica.set_stop.Goals as goal

pub returns-clause-stop : goal.returns-clause-stop
returns-clause-stop c = stop_set _ _ c.args.thread c.index_mut.result.now c.args.stop c.self.view_is c.requires c.index_mut.ensures.value
