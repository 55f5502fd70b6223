use Rattle.std.proofs.Common.{◌≡◌, None}
use Rattle.ro_legal.specs.Action.{lowest_below}
use Rattle.ro_core.specs.Fields.{is_unblocked}
use Rattle.ro_core.proofs.choosing.lowest_unblocked.Given as goal

abbrev pub invariant-loop-thread : goal.invariant-loop-thread
invariant-loop-thread l = lowest_below l.thread (is_unblocked l.kernel.setup l.kernel.kernel l.blocked) ≡ None
