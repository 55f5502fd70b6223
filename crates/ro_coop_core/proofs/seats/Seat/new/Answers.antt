use Rattle.std.proofs.Common.{refl}
use Rattle.ro_coop_core.proofs.Homes.{opening-seat}
use Rattle.ro_coop_core.proofs.seats.Seat.new.Goals as goal

pub returns : goal.returns
returns c job kernel replica own is idle = opening-seat job kernel replica _ _ refl refl c.new-2.ensures refl c.new.ensures.items own is idle
