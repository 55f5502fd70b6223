use Rattle.std.specs.Prelude.{None}
use Rattle.ro_replica.proofs.Targets.{stop_set}
use Rattle.ro_replica.proofs.replicas.Replica.forget_stop.Goals as goal

pub returns-clause-forgotten : goal.returns-clause-forgotten
returns-clause-forgotten c = stop_set _ _ c.args.thread c.index_mut.result.now None c.self.view_is c.requires c.index_mut.ensures.value
