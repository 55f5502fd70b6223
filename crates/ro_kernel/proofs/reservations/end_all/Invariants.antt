use Rattle.std.specs.Prelude.{◌≡◌, ◌++◌, take, drop}
use Rattle.ro_kernel.specs.Reserved.{without_at}
use Rattle.ro_kernel.proofs.reservations.end_all.Given as goal

abbrev pub invariant-loop-reservation : goal.invariant-loop-reservation
invariant-loop-reservation l = without_at l.initial.reserved l.address ≡ take l.reservation-index l.reserved ++ without_at (drop l.reservation-index l.reserved) l.address
