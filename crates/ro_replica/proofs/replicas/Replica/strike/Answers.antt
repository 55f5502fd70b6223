use Rattle.std.proofs.Common.{◌≡◌, ap, subst, List}
use Rattle.std.specs.Prelude.{[]}
use Rattle.std.specs.List.{filter}
use Rattle.ro_faults.specs.declared.Fault.{Fault}
use Rattle.ro_replica.specs.Runs.{is_due}
use Rattle.ro_replica.specs.Seen.{ReplicaOf, replica_of}
use Rattle.ro_replica.proofs.Strikes.{struck_none}
use Rattle.ro_replica.proofs.SoFar.{done_read}
use Rattle.ro_replica.proofs.replicas.Replica.strike.Goals as goal

pub strike_due-requires-clause-done : goal.strike_due-requires-clause-done
strike_due-requires-clause-done c = done_read _ _ c.args.thread c.index.result.now c.self.view_is c.requires c.index.ensures

pub returns-then-is_known_free-clause-struck : goal.returns-then-is_known_free-clause-struck
returns-then-is_known_free-clause-struck c =
    struck_none c.args.self.now.layout.ranges (replica_of c.args.self.now) c.args.thread c.index.result.now.done
    (done_read _ _ c.args.thread c.index.result.now c.self.view_is c.requires c.index.ensures)
    (subst (λ (faults : List Fault). filter (is_due c.args.thread c.index.result.now.done) faults ≡ []) (ap (λ (v : ReplicaOf). v.waiting) c.self.view_is) (c.is_known_free.ensures c.if-is_known_free.true))
