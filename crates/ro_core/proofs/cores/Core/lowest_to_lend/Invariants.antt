use Rattle.std.proofs.Common.{◌≡◌, None}
use Rattle.ro_legal.specs.Action.{lowest_below}
use Rattle.ro_legal.proofs.Lowest.{lend-test}
use Rattle.ro_core.specs.Runs.{state_of}
use Rattle.ro_core.proofs.cores.Core.lowest_to_lend.Given as goal

abbrev pub invariant-loop-replica : goal.invariant-loop-replica
invariant-loop-replica l = lowest_below l.replica (lend-test (state_of l.self)) ≡ None
