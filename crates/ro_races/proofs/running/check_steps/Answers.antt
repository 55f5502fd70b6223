use Rattle.std.proofs.Common.{arith}
use Rattle.std.proofs.lemmas.Result.{err_from_is_err_and}
use Rattle.ro_races.proofs.Standing.{stands-rest}
use Rattle.ro_races.proofs.running.check_steps.Goals as goal

pub loop-done-preserved : goal.loop-done-preserved
loop-done-preserved c =
    let i = c.loop-done.invariant in
    record {
      reads = c.in_ok-done.ensures.reads;
      writes = c.in_ok-done.ensures.writes;
      atomics = c.in_ok-done.ensures.atomics;
      few = omega (arith, c.in_ok-done.ensures.most, c.loop-done-test.true);
      steps = omega (arith, i.steps, c.in_ok-done.ensures.steps);
      follows = λ program threads f s. c.in_ok-done.ensures.follows program threads (i.follows program threads f s) (stands-rest threads c.args.checker.now.steps c.args.count c.loop-done.done c.args.thread c.loop-done.checker.steps i.few s i.steps);
    }

pub returns-in_err-done-clause-lacks : goal.returns-in_err-done-clause-lacks
returns-in_err-done-clause-lacks c =
    let p = err_from_is_err_and c.from_residual.result c.from_residual.ensures.1 in
    let i = c.loop-done.invariant in
    rw (p.1, p.2)
    (λ program threads f s. c.in_err-done.ensures.lacks program threads (i.follows program threads f s) (stands-rest threads c.args.checker.now.steps c.args.count c.loop-done.done c.args.thread c.loop-done.checker.steps i.few s i.steps))
