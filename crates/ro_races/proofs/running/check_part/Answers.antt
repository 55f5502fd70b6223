use Rattle.std.proofs.lemmas.Result.{err_from_is_err_and}
use Rattle.ro_races.proofs.Tables.{below-unless}
use Rattle.ro_races.proofs.Standing.{stands-step}
use Rattle.ro_races.proofs.running.check_part.Goals as goal

pub returns-in_err-check_step-clause-lacks : goal.returns-in_err-check_step-clause-lacks
returns-in_err-check_step-clause-lacks c =
    let p = err_from_is_err_and c.from_residual-in_err-check_step.result c.from_residual-in_err-check_step.ensures.1 in
    rw (p.1, p.2)
    (λ program threads f s. c.in_err-check_step.ensures.lacks program threads (c.in_ok-taken.ensures.follows program threads f s) (stands-step threads c.args.checker.now.steps c.args.most c.in_ok-taken.taken c.args.thread c.check_row.new.checker.steps (below-unless c.in_ok-taken.taken c.args.most c.in_ok-taken.ensures.most c.if-taken-most.false) s c.in_ok-taken.ensures.steps))

pub returns-clause-follows : goal.returns-clause-follows
returns-clause-follows c program threads f s =
    c.in_ok-check_step.ensures.follows program threads (c.in_ok-taken.ensures.follows program threads f s) (stands-step threads c.args.checker.now.steps c.args.most c.in_ok-taken.taken c.args.thread c.check_row.new.checker.steps (below-unless c.in_ok-taken.taken c.args.most c.in_ok-taken.ensures.most c.if-taken-most.false) s c.in_ok-taken.ensures.steps)
