use Rattle.std.proofs.Common.{refl, arith}
use Rattle.ro_core.proofs.Scrubbed.{none-with, none-of-all}
use Rattle.ro_core.proofs.scrubbing.prevailing.Goals as goal

pub loop-number-preserved : goal.loop-number-preserved
loop-number-preserved c = none-with c.args.kernel.now.kernel c.args.seats.now c.loop-number.number c.loop-number.invariant (c.in_default.ensures.none refl)

pub returns-clause-none : goal.returns-clause-none
returns-clause-none c none = none-of-all c.args.kernel.now.kernel c.args.seats.now c.loop-number.number c.loop-number.invariant (omega (arith, c.loop-number-test.false))
