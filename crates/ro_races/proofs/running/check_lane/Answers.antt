use Rattle.std.proofs.Common.{Bool, ◌≡◌, ◌+◌, ◌∙◌, Some, sym, ap, arith, if◌then◌else◌}
use Rattle.ro_races.proofs.Standing.{stands-step}
use Rattle.ro_races.proofs.running.check_lane.Goals as goal

pub returns-then-not-branch-clause-follows : goal.returns-then-not-branch-clause-follows
returns-then-not-branch-clause-follows c program threads f s =
    let i = c.loop-taken.invariant in
    c.in_ok-check_quickly.ensures.follows program threads (i.follows program threads f s) (stands-step threads c.args.checker.now.steps c.args.most c.loop-taken.taken c.args.lane.now.thread c.loop-taken.checker.steps c.loop-taken-test.true s i.steps ∙ ap Some (sym i.thread))

pub loop-taken-preserved : goal.loop-taken-preserved
loop-taken-preserved c =
    let i = c.loop-taken.invariant in
    let step : c.check_quickly.new.checker.steps ≡ c.loop-taken.checker.steps + 1 = c.in_ok-check_quickly.ensures.steps ∙ ap (λ (b : Bool). c.loop-taken.checker.steps + (if b then 1 else 0)) c.if-not-branch.false in
    record {
      reads = c.in_ok-check_quickly.ensures.reads;
      writes = c.in_ok-check_quickly.ensures.writes;
      atomics = c.in_ok-check_quickly.ensures.atomics;
      opened = c.in_ok-check_quickly.ensures.opened;
      own = c.in_ok-check_quickly.ensures.own;
      thread = c.in_ok-check_quickly.ensures.thread ∙ i.thread;
      steps = omega (arith, i.steps, step);
      follows = λ program threads f s. c.in_ok-check_quickly.ensures.follows program threads (i.follows program threads f s) (stands-step threads c.args.checker.now.steps c.args.most c.loop-taken.taken c.args.lane.now.thread c.loop-taken.checker.steps c.loop-taken-test.true s i.steps ∙ ap Some (sym i.thread));
    }
