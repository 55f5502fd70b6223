use Rattle.std.proofs.Common.{◌≡◌, false}
use Rattle.ro_legal.specs.Sides.{Side}
use Rattle.ro_legal.specs.Core.{any_below, waits_beside}
use Rattle.ro_coop_core.specs.Seats.{KnowsParked}
use Rattle.ro_coop_core.proofs.seats.Seat.is_awaited.Given as goal

-- none so far waits
abbrev pub invariant-loop-other : goal.invariant-loop-other
invariant-loop-other l = (side : Side) → KnowsParked l.self side → any_below l.other (waits_beside side l.thread l.mutex l.rank) ≡ false
