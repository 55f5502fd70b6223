use Rattle.std.proofs.Common.{◌≡◌, ◌+◌, ◌^◌, ◌<◌, ◌∙◌, sym, subst, length, take, arith}
use Rattle.std.proofs.lemmas.Result.{err_from_is_err_and}
use Rattle.ro_settings.specs.declared.Mode.{Mode}
use Rattle.ro_plans.specs.Plans.{plan_in}
use Rattle.ro_plans.specs.Walks.{Adds}
use Rattle.ro_plans.proofs.Told.{told-length, plan-le}
use Rattle.ro_machine.proofs.Joined.{plan-room}
use Rattle.ro_races.proofs.Standing.{stands-told}
use Rattle.ro_races.proofs.running.check_all.Goals as goal

pub check_told-requires-clause-steps : goal.check_told-requires-clause-steps
check_told-requires-clause-steps c =
    let adds = subst (λ (mode : Mode). Adds mode c.args.journal.now c.loop-place.place c.steps-told.result) c.loop-place.invariant.mode c.steps-told.ensures.adds in
    plan-room c.args.mode c.args.journal.now c.loop-place.place c.steps-told.result 1000000000 c.loop-place.checker.steps c.requires.steps c.loop-place.invariant.steps adds

pub returns-in_err-check_told-clause-lacks : goal.returns-in_err-check_told-clause-lacks
returns-in_err-check_told-clause-lacks c =
    let p = err_from_is_err_and c.from_residual.result c.from_residual.ensures.1 in
    let i = c.loop-place.invariant in
    let adds = subst (λ (mode : Mode). Adds mode c.args.journal.now c.loop-place.place c.steps-told.result) i.mode c.steps-told.ensures.adds in
    let at : c.loop-place.checker.steps ≡ 0 + length (plan_in c.args.mode (take c.loop-place.place c.args.journal.now)) = omega (arith, i.steps) in
    rw (p.1, p.2)
    (λ program threads f s. c.in_err-check_told.ensures.lacks program threads (i.follows program threads f s) (stands-told threads c.args.mode c.args.journal.now c.loop-place.place c.steps-told.result 0 c.loop-place.checker.steps adds s at))

pub loop-place-preserved : goal.loop-place-preserved
loop-place-preserved c =
    let i = c.loop-place.invariant in
    let adds = subst (λ (mode : Mode). Adds mode c.args.journal.now c.loop-place.place c.steps-told.result) i.mode c.steps-told.ensures.adds in
    let at : c.loop-place.checker.steps ≡ 0 + length (plan_in c.args.mode (take c.loop-place.place c.args.journal.now)) = omega (arith, i.steps) in
    let few : length (plan_in c.args.mode (take (c.loop-place.place + 1) c.args.journal.now)) < 2 ^ 64 = omega (arith, c.requires.steps, plan-le c.args.mode c.args.journal.now (c.loop-place.place + 1)) in
    record {
      mode = c.steps-told.ensures.mode ∙ i.mode;
      passed = c.steps-told.ensures.passed (subst (λ (mode : Mode). length (plan_in mode (take (c.loop-place.place + 1) c.args.journal.now)) < 2 ^ 64) (sym i.mode) few);
      reads = c.in_ok-check_told.ensures.reads;
      writes = c.in_ok-check_told.ensures.writes;
      atomics = c.in_ok-check_told.ensures.atomics;
      steps = omega (arith, i.steps, c.in_ok-check_told.ensures.steps, told-length c.args.mode c.args.journal.now c.loop-place.place c.steps-told.result adds);
      follows = λ program threads f s. c.in_ok-check_told.ensures.follows program threads (i.follows program threads f s) (stands-told threads c.args.mode c.args.journal.now c.loop-place.place c.steps-told.result 0 c.loop-place.checker.steps adds s at);
    }
