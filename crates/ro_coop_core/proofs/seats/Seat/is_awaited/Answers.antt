use Rattle.std.proofs.Common.{sym, ◌∙◌, arith}
use Rattle.std.proofs.lemmas.Bool.{or_from}
use Rattle.ro_legal.specs.Core.{any_below, waits_beside}
use Rattle.ro_legal.proofs.Awaited.{any-more, awaited-there}
use Rattle.ro_coop_core.proofs.Barred.{none-awaits}
use Rattle.ro_coop_core.proofs.seats.Seat.is_awaited.Goals as goal

pub loop-other-preserved : goal.loop-other-preserved
loop-other-preserved c side parks =
    any-more c.loop-other.other (waits_beside side c.args.thread c.args.mutex c.args.rank)
    ∙ or_from (any_below c.loop-other.other (waits_beside side c.args.thread c.args.mutex c.args.rank)) _ (c.loop-other.invariant side parks) (sym (c.if-waits_beside.ensures side parks))

pub returns-then-waits_beside : goal.returns-then-waits_beside
returns-then-waits_beside c side parks =
    sym (awaited-there side c.args.thread c.args.mutex c.args.rank c.loop-other.other (omega (arith, c.loop-other-test.true)) (sym (c.if-waits_beside.ensures side parks)))

pub returns : goal.returns
returns c side parks = none-awaits side c.args.thread c.args.mutex c.args.rank c.loop-other.other (omega (arith, c.loop-other-test.false)) (c.loop-other.invariant side parks)
