use Rattle.std.proofs.Common.{◌∷◌}
use Rattle.ro_coop_core.specs.Seats.{AreHome}
use Rattle.ro_coop_core.proofs.Sitting.{home-cons}
use Rattle.ro_coop_core.proofs.seats.+reserve_all.Goals as goal

pub returns-in_err-reserve-clause-kept : goal.returns-in_err-reserve-clause-kept
returns-in_err-reserve-clause-kept n c job kernel replicas sides home =
    home-cons job kernel c.args.seats.now c.in-Some.seat.now c.in-Some.others.now c.in-Some.ensures.cases.0 (λ rs ds. AreHome job kernel rs ds (c.reserve.new.self ∷ c.in-Some.others.now)) (λ r d rs ds h k. (c.reserve.ensures.kept job kernel r d h, k)) replicas sides home

pub returns-clause-kept : goal.returns-clause-kept
returns-clause-kept n c job kernel replicas sides home =
    home-cons job kernel c.args.seats.now c.in-Some.seat.now c.in-Some.others.now c.in-Some.ensures.cases.0 (λ rs ds. AreHome job kernel rs ds (c.reserve.new.self ∷ c.reserve_all.new.seats)) (λ r d rs ds h k. (c.reserve.ensures.kept job kernel r d h, c.reserve_all.ensures.kept job kernel rs ds k)) replicas sides home
