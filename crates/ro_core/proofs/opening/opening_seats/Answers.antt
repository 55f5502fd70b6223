use Rattle.std.proofs.Common.{Some, ℕ, sym, subst, arith}
use Rattle.ro_replica.specs.Seen.{ReplicaOf, IsOpening}
use Rattle.ro_core.specs.Opening.{IsFirst, AreFirst}
use Rattle.ro_core.proofs.Begins.{first-push}
use Rattle.ro_core.proofs.opening.opening_seats.Goals as goal

pub loop-number-preserved : goal.loop-number-preserved
loop-number-preserved c = (
  subst (AreFirst c.args.image.now c.args.faults.now c.args.settings.watchdog) (sym c.in_ok-push.ensures.items) (first-push c.args.image.now c.args.faults.now c.args.settings.watchdog c.loop-number.seats.items (Some c.in_ok-new.field-0) c.loop-number.invariant.0
      (subst (λ (n : ℕ). IsFirst c.args.image.now c.args.faults.now c.args.settings.watchdog n (Some c.in_ok-new.field-0)) (sym c.loop-number.invariant.1)
      (subst (λ (v : ReplicaOf). IsOpening c.args.image.now c.loop-number.number c.args.faults.now c.args.settings.watchdog v) (sym c.in_ok-new.ensures) c.in_ok-replica.ensures.opening))),
  omega (arith, c.in_ok-push.ensures.len, c.loop-number.invariant.1, c.loop-number.seats.ok.0, c.push.new.self.ok.0),
)
