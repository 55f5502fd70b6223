use Rattle.std.specs.Prelude.{◌≡◌, ◌++◌, List, take, length}
use Rattle.std.proofs.Common.{rules, refl, sym, ap, ◌∙◌}
use Rattle.ro_condition.proofs.Places.{heard-one, heard-all}
use Rattle.ro_condition.proofs.waiters.tell_all.Goals as goal

pub loop-waiter-init : goal.loop-waiter-init
loop-waiter-init c = refl

pub loop-waiter-preserved : goal.loop-waiter-preserved
loop-waiter-preserved c = c.loop-waiter.invariant ∙ search (heard-one, rules)

pub returns : goal.returns
returns c = search (heard-all, rules)
