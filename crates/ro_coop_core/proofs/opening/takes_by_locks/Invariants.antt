use Rattle.std.proofs.Common.{◌≡◌, drop}
use Rattle.ro_event.specs.Functions.{functions}
use Rattle.ro_orders.specs.Choices.{has_otherwise}
use Rattle.ro_coop_core.proofs.opening.takes_by_locks.Given as goal

-- none so far does
abbrev pub invariant-loop-place : goal.invariant-loop-place
invariant-loop-place l = has_otherwise l.image.calls.addresses functions ≡ has_otherwise (drop l.place l.image.calls.addresses) (drop l.place functions)
