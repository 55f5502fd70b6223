use Rattle.std.proofs.Common.{rules, ◌≡◌, sym, ap, ◌∙◌}
use Rattle.ro_condition.proofs.Places.{signalled, unheard}
use Rattle.ro_condition.proofs.waiters.Waiters.signal.Goals as goal

pub returns-in-Some : goal.returns-in-Some
returns-in-Some c = search (signalled, rules)

pub returns-in_default : goal.returns-in_default
returns-in_default c = search (unheard, rules)
