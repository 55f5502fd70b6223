use Rattle.std.proofs.Common.{◌≡◌, ◌+◌, length, ap, arith}
use Rattle.ro_takers.specs.Recalls.{list_of}
use Rattle.ro_coop_core.proofs.Sitting.{ceiling-none, ceiling-cons, known-head, known-tail}
use Rattle.ro_coop_core.proofs.seats.+ceiling.Goals as goal

pub returns-in_default : goal.returns-in_default
returns-in_default n c sides address numbered rank small = ceiling-none c.args.number address sides c.args.seats.now c.in_default.ensures.cases numbered rank small

pub rank-requires : goal.rank-requires
rank-requires n c = known-head c.args.number c.args.seats.now c.in-Some.seat.now c.in-Some.others.now c.in-Some.ensures.cases.0 c.requires.known

pub ceiling-requires : goal.ceiling-requires
ceiling-requires n c = (omega (arith, ap length c.in-Some.ensures.cases.0), known-tail c.args.number c.args.seats.now c.in-Some.seat.now c.in-Some.others.now c.in-Some.ensures.cases.0 c.requires.known)

pub returns : goal.returns
returns n c =
    ceiling-cons c.args.number c.args.seats.now c.in-Some.seat.now c.in-Some.others.now c.in-Some.ensures.cases.0 (c.from.result + c.from-2.result) c.ceiling.result c.min.result c.min.ensures
    (λ lists recalls. let rank : c.rank.result ≡ length (list_of lists c.args.number) = c.rank.ensures lists recalls in omega (arith, c.from.ensures, c.from-2.ensures, rank))
    c.ceiling.ensures
