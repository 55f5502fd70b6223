use Rattle.std.proofs.Common.{◌≡◌, None}
use Rattle.ro_legal.specs.Core.{is_lendable}
use Rattle.ro_legal.specs.Action.{lowest_below}
use Rattle.ro_core.specs.Runs.{state_of}
use Rattle.ro_core.proofs.cores.Core.turn_of.Given as goal

abbrev pub invariant-loop-replica : goal.invariant-loop-replica
invariant-loop-replica l = lowest_below l.replica (λ replica. is_lendable (state_of l.self) replica l.thread) ≡ None
