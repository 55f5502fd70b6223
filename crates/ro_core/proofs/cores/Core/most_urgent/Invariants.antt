use Rattle.std.proofs.Common.{◌≡◌, ◌<◌}
use Rattle.std.specs.Prelude.{IfSome}
use Rattle.ro_legal.specs.Action.{most_urgent_below}
use Rattle.ro_core.specs.Runs.{state_of}
use Rattle.ro_core.proofs.cores.Core.most_urgent.Given as goal

abbrev pub invariant-loop-thread : goal.invariant-loop-thread
invariant-loop-thread l = (l.longest ≡ most_urgent_below (state_of l.self) l.thread) × IfSome l.longest (λ t. t < 16)
