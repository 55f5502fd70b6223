use Rattle.std.specs.Prelude.{◌≡◌, ◌++◌, take, drop}
use Rattle.ro_condition.specs.Waiters.{with_broadcast}
use Rattle.ro_condition.proofs.waiters.tell_all.Given as goal

abbrev pub invariant-loop-waiter : goal.invariant-loop-waiter
invariant-loop-waiter l = with_broadcast l.initial.waiters l.condition ≡ take l.waiter-index l.waiters ++ with_broadcast (drop l.waiter-index l.waiters) l.condition
