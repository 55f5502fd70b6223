use Rattle.std.proofs.Common.{length, ap, arith}
use Rattle.ro_coop_core.proofs.Sitting.{nobody-took, known-head, known-tail, took-here, took-later}
use Rattle.ro_coop_core.proofs.seats.+taker.Goals as goal

pub returns-in_default : goal.returns-in_default
returns-in_default n c sides address numbered near = nobody-took c.args.number address c.args.rank sides c.args.seats.now c.in_default.ensures.cases numbered

pub taker-requires : goal.taker-requires
taker-requires n c = known-head c.args.number c.args.seats.now c.in-Some.seat.now c.in-Some.others.now c.in-Some.ensures.cases.0 c.requires.known

pub taker-requires-in-None : goal.taker-requires-in-None
taker-requires-in-None n c = (omega (arith, ap length c.in-Some.ensures.cases.0), known-tail c.args.number c.args.seats.now c.in-Some.seat.now c.in-Some.others.now c.in-Some.ensures.cases.0 c.requires.known)

pub returns-in-Some-taker : goal.returns-in-Some-taker
returns-in-Some-taker n c =
    took-here c.args.number c.args.seats.now c.in-Some.seat.now c.in-Some.others.now c.in-Some.ensures.cases.0 c.args.rank c.taker.result c.taker.ensures c.in-Some-taker.thread c.in-Some-taker.is

pub returns-in-None : goal.returns-in-None
returns-in-None n c =
    took-later c.args.number c.args.seats.now c.in-Some.seat.now c.in-Some.others.now c.in-Some.ensures.cases.0 c.args.rank c.taker.result c.taker.ensures c.in-None.is c.taker-in-None.result c.taker-in-None.ensures
