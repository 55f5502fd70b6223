use Rattle.std.proofs.Common.{◌≡◌, ◌++◌, map, take, drop}
use Rattle.ro_pages.specs.Held.{has_page}
use Rattle.ro_replica.specs.Replica.{without_cancelled}
use Rattle.ro_replica.proofs.applying.forget_faults.Given as goal

abbrev pub invariant-loop-thread : goal.invariant-loop-thread
invariant-loop-thread l = l.threads ≡ map (without_cancelled (has_page l.pages.pages)) (take l.thread-index l.fn.threads) ++ drop l.thread-index l.fn.threads
