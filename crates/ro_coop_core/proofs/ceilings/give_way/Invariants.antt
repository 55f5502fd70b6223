use Rattle.std.proofs.Common.{◌≡◌, Some, length}
use Rattle.std.specs.Prelude.{slice_get}
use Rattle.ro_legal.specs.Sides.{Side}
use Rattle.ro_legal.specs.Core.{Core}
use Rattle.ro_coop_core.specs.declared.seats.Seat.{Seat}
use Rattle.ro_coop_core.specs.Seats.{EachIsCeiling, KnowEach, KnowsParked}
use Rattle.ro_coop_core.proofs.Limiting.{LoweredBelow}
use Rattle.ro_coop_core.proofs.ceilings.give_way.Given as goal

-- lowered for the threads so far
abbrev pub invariant-loop-other : goal.invariant-loop-other
invariant-loop-other l = record {
  count : length l.ceilings ≡ length l.fn.ceilings;
  lowered : (core : Core) (side : Side) (seat : Seat) → side.mutexes ≡ l.mutexes → KnowEach core.sides l.seats side.mutexes → slice_get l.seats l.place ≡ Some seat → KnowsParked seat side → EachIsCeiling core.sides side.mutexes l.fn.ceilings → LoweredBelow core side l.thread l.other l.ceilings;
}
