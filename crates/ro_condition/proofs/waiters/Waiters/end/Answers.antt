use Rattle.std.proofs.Common.{rules, ◌≡◌, sym, ap, ◌∙◌}
use Rattle.ro_condition.specs.Waiters.{without}
use Rattle.ro_condition.proofs.Places.{removed, nobody}
use Rattle.ro_condition.proofs.waiters.Waiters.end.Goals as goal

pub returns-in-Some : goal.returns-in-Some
returns-in-Some c = c.remove.ensures.items ∙ (search (removed, rules))

pub returns-in_default : goal.returns-in_default
returns-in_default c = search (nobody, rules)
