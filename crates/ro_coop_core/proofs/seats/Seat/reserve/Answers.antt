use Rattle.std.proofs.Common.{refl}
use Rattle.ro_coop_core.proofs.Homes.{kept-seat}
use Rattle.ro_coop_core.proofs.seats.Seat.reserve.Goals as goal

pub returns-in_err-reserve-clause-kept : goal.returns-in_err-reserve-clause-kept
returns-in_err-reserve-clause-kept c job kernel replica side home =
    kept-seat job kernel replica side c.args.self.now _ home.partner home.partner refl refl c.reserve.ensures.ranks c.reserve.ensures.rings home.home home.home (λ is. is) home

pub returns-in-Some-clause-kept : goal.returns-in-Some-clause-kept
returns-in-Some-clause-kept c job kernel replica side home =
    kept-seat job kernel replica side c.args.self.now _ c.in-Some.partner c.reserve-in-Some.new.self refl refl c.reserve.ensures.ranks c.reserve.ensures.rings c.in-Some.is refl (c.reserve-in-Some.ensures.kept job kernel replica side) home
