use Rattle.std.proofs.Common.{rules, refl, ◌∙◌}
use Rattle.ro_kernel.proofs.Ended.{done-one, done-all}
use Rattle.ro_kernel.proofs.reservations.end_all.Goals as goal

pub loop-reservation-init : goal.loop-reservation-init
loop-reservation-init c = refl

pub loop-reservation-preserved : goal.loop-reservation-preserved
loop-reservation-preserved c = c.loop-reservation.invariant ∙ search (done-one, rules)

pub returns : goal.returns
returns c = search (done-all, rules)
