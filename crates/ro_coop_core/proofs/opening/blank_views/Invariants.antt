use Rattle.std.proofs.Common.{◌≡◌, length}
use Rattle.ro_coop_core.proofs.opening.blank_views.Given as goal

abbrev pub invariant-loop : goal.invariant-loop
invariant-loop l = length l.views.items ≡ l.counter
