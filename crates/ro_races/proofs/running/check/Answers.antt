use Rattle.std.proofs.lemmas.Result.{err_from_is_err_and}
use Rattle.std.specs.Arc.{arc_value}
use Rattle.ro_plans.specs.Plans.{plan_in}
use Rattle.ro_races.proofs.Standing.{stands-whole, checks-whole}
use Rattle.ro_races.proofs.running.check.Goals as goal

pub returns-in_err-check_all-clause-lacks : goal.returns-in_err-check_all-clause-lacks
returns-in_err-check_all-clause-lacks c =
    let p = err_from_is_err_and c.from_residual.result c.from_residual.ensures.1 in
    rw (p.1, p.2)
    (c.in_err-check_all.ensures.lacks (record { image = arc_value c.args.image.now; input = c.args.input.now }) (plan_in c.args.mode c.args.journal.now) (c.in-Ok.ensures.follows (plan_in c.args.mode c.args.journal.now)) (stands-whole (plan_in c.args.mode c.args.journal.now)))

pub returns-clause-checks : goal.returns-clause-checks
returns-clause-checks c =
    checks-whole (record { image = arc_value c.args.image.now; input = c.args.input.now }) (plan_in c.args.mode c.args.journal.now) c.check_all.new.checker
    (c.in_ok-check_all.ensures.follows (record { image = arc_value c.args.image.now; input = c.args.input.now }) (plan_in c.args.mode c.args.journal.now) (c.in-Ok.ensures.follows (plan_in c.args.mode c.args.journal.now)) (stands-whole (plan_in c.args.mode c.args.journal.now)))
    c.in_ok-check_all.ensures.steps
