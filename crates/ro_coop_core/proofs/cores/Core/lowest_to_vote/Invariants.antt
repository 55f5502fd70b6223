use Rattle.std.proofs.Common.{◌≡◌, None}
use Rattle.ro_legal.specs.Core.{may_vote}
use Rattle.ro_legal.specs.Action.{lowest_below}
use Rattle.ro_coop_core.specs.Runs.{state_of}
use Rattle.ro_coop_core.proofs.cores.Core.lowest_to_vote.Given as goal

abbrev pub invariant-loop-thread : goal.invariant-loop-thread
invariant-loop-thread l = lowest_below l.thread (may_vote (state_of l.self)) ≡ None
