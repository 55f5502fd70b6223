use Rattle.std.proofs.Common.{◌≡◌, length}
use Rattle.ro_core.specs.Opening.{AreFirst}
use Rattle.ro_core.proofs.opening.opening_seats.Given as goal

abbrev pub invariant-loop-number : goal.invariant-loop-number
invariant-loop-number l = AreFirst l.image l.faults l.settings.watchdog l.seats.items × (length l.seats.items ≡ l.number)
