use Rattle.std.proofs.Common.{◌≡◌, ◌≤◌, length, ap, ◌∙◌, arith}
use Rattle.ro_replica.specs.Seen.{ReplicaOf}
use Rattle.ro_replica.proofs.SoFar.{faults_left, strike_is, fewer}
use Rattle.ro_replica.proofs.replicas.Replica.strike_due.Goals as goal

pub invariant_of-self : goal.invariant_of-self
invariant_of-self c =
    let i = c.self.invariant.0 in
    (record { first = i.first; few = i.few; room = i.room; watched = i.watched; faults = faults_left _ _ _ i.faults c.forget.ensures }, c.self.invariant.1)

pub returns-clause-struck : goal.returns-clause-struck
returns-clause-struck c =
    strike_is c.args.self.now _ _ _ c.args.thread _ _ c.requires.done c.self.view_is c.strike_all-hit.ensures.waiting c.strike_all-hit.ensures.struck c.strike_all-hit.ensures.hit c.forget.ensures

pub returns-clause-fewer : goal.returns-clause-fewer
returns-clause-fewer c =
    fewer c.args.self.now _ _ _ c.args.thread _ _ c.self.view_is c.strike_all-hit.ensures.waiting c.strike_all-hit.ensures.hit c.forget.ensures

pub returns-clause-few : goal.returns-clause-few
returns-clause-few c =
    let all = fewer c.args.self.now _ _ _ c.args.thread _ _ c.self.view_is c.strike_all-hit.ensures.waiting c.strike_all-hit.ensures.hit c.forget.ensures in
    let first : length c.self.inside.waiting ≤ 256 = c.self.invariant.0.faults.few in
    let same : length c.self.inside.waiting ≡ length c.args.self.now.waiting = ap (λ (v : ReplicaOf). length v.waiting) c.self.view_is ∙ ap length c.strike_all-hit.ensures.waiting in
    omega (arith, all)
