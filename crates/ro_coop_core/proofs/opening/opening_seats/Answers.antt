use Rattle.std.proofs.Common.{ℕ, sym, ◌∙◌, subst, arith}
use Rattle.ro_coop_core.specs.Opening.{IsFirst, AreFirst}
use Rattle.ro_coop_core.proofs.Begins.{first-push, first-seat}
use Rattle.ro_coop_core.proofs.opening.opening_seats.Goals as goal

pub loop-number-preserved : goal.loop-number-preserved
loop-number-preserved c = (
  subst (AreFirst c.args.image.now c.args.settings.watchdog) (sym c.in_ok-push.ensures.items) (first-push c.args.image.now c.args.settings.watchdog c.loop-number.seats.items c.new-in-loop-number-3.result c.loop-number.invariant.0
      (subst (λ (n : ℕ). IsFirst c.args.image.now c.args.settings.watchdog n c.new-in-loop-number-3.result) (sym c.loop-number.invariant.1)
      (first-seat c.args.image.now c.args.settings.watchdog c.loop-number.number c.in_ok-replica.replica c.in_ok-peer.peer c.new-in-loop-number-3.result c.in_ok-replica.ensures.opening (c.in_ok-peer.ensures.0 ∙ c.in_ok-new.ensures) c.in_ok-peer.ensures.1 c.in_ok-peer.ensures.2
      (λ job replica own is idle. c.new-in-loop-number-3.ensures job _ replica own is idle)))),
  omega (arith, c.in_ok-push.ensures.len, c.loop-number.invariant.1, c.loop-number.seats.ok.0, c.push.new.self.ok.0),
)
