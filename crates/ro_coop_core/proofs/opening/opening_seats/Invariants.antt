use Rattle.std.proofs.Common.{◌≡◌, length}
use Rattle.ro_coop_core.specs.Opening.{AreFirst}
use Rattle.ro_coop_core.proofs.opening.opening_seats.Given as goal

abbrev pub invariant-loop-number : goal.invariant-loop-number
invariant-loop-number l = AreFirst l.image l.settings.watchdog l.seats.items × (length l.seats.items ≡ l.number)
