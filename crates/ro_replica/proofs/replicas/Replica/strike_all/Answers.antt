use Rattle.std.proofs.Common.{◌≡◌, ◌<◌, ◌∙◌, sym, ap, subst, List, length, arith}
use Rattle.std.specs.Prelude.{slice_index_or}
use Rattle.ro_faults.specs.declared.Fault.{Fault}
use Rattle.ro_replica.specs.Seen.{ReplicaOf}
use Rattle.ro_replica.proofs.SoFar.{takes, skips}
use Rattle.ro_replica.proofs.replicas.Replica.strike_all.Goals as goal
use Rattle.ro_replica.proofs.replicas.Replica.strike_all.Goals.{then-is_due, else-is_due}

pub loop-i-preserved : goal.loop-i-preserved
loop-i-preserved c =
    let fault = c.at-fault.result in
    let len : length c.self.inside.waiting ≡ length c.args.self.now.waiting = ap (λ (v : ReplicaOf). length v.waiting) c.self.view_is in
    let within : c.loop-i.i < length c.args.self.now.waiting = omega arith in
    let read : fault ≡ slice_index_or c.loop-i.self.waiting c.loop-i.i fault =
    subst (λ (faults : List Fault). fault ≡ slice_index_or faults c.loop-i.i fault) (ap (λ (v : ReplicaOf). v.waiting) c.self-in-loop-i.view_is) c.at-fault.ensures in
    elim c.if-is_due.branch [
      | then-is_due w ↦ rw (w.self-is, w.hit-is) (takes _ _ _ _ _ _ _ fault c.loop-i.invariant within read (sym c.is_due.ensures ∙ w.if-is_due.true) w.strike_at.ensures.program w.strike_at.ensures.threads w.strike_at.ensures.struck)
      | else-is_due w ↦ rw (w.self-is, w.hit-is) (skips _ _ _ _ _ _ fault c.loop-i.invariant within read (sym c.is_due.ensures ∙ w.if-is_due.false))
    ]
