use Rattle.std.proofs.Common.{rules, ◌≡◌, sym, ap, ◌∙◌}
use Rattle.ro_condition.proofs.Places.{found, not-found, inside}
use Rattle.ro_condition.proofs.waiters.Waiters.of.Goals as goal

pub returns-in_err-place : goal.returns-in_err-place
returns-in_err-place c = search (not-found, rules)

pub returns : goal.returns
returns c = search (found, rules)
