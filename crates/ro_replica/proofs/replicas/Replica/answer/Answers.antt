use Rattle.std.proofs.Common.{ap}
use Rattle.ro_thread.specs.declared.Thread.{Thread}
use Rattle.ro_replica.specs.Replica.{went_on}
use Rattle.ro_replica.specs.Seen.{replica_of}
use Rattle.ro_replica.proofs.Answered.{one_changed, stands_within, replica_answered}
use Rattle.ro_replica.proofs.replicas.Replica.answer.Goals as goal

pub returns-clause-answered : goal.returns-clause-answered
returns-clause-answered c =
    one_changed (went_on c.args.call c.args.thread c.args.value) _ _ c.args.thread c.index_mut.result.now c.go_on_behind.new.thread c.self.view_is
    (stands_within _ _ c.args.thread (replica_of c.args.self.now) _ c.requires.standing) c.index_mut.ensures.value (c.go_on_behind.ensures c.args.thread)

pub invariant_of-self : goal.invariant_of-self
invariant_of-self c = (
  replica_answered _ _ c.args.thread _ c.index_mut.result.now c.go_on_behind.new.thread c.args.call c.self.view_is c.index_mut.ensures.value c.requires.standing
      (ap (λ (x : Thread). x.since) (c.go_on_behind.ensures c.args.thread)) c.self.invariant.0 c.requires.countable,
  c.self.invariant.1,
)
