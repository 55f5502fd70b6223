use Rattle.std.proofs.Common.{◌≡◌, ◌<◌}
use Rattle.std.specs.Prelude.{IfSome}
use Rattle.ro_legal.specs.Core.{may_free}
use Rattle.ro_legal.specs.Action.{longest_below}
use Rattle.ro_coop_core.specs.Runs.{job_of, state_of}
use Rattle.ro_coop_core.proofs.cores.Core.longest_to_free.Given as goal

abbrev pub invariant-loop-thread : goal.invariant-loop-thread
invariant-loop-thread l = (l.longest ≡ longest_below (state_of l.self) (may_free (job_of l.self) (state_of l.self)) l.thread) × IfSome l.longest (λ t. t < 16)
