use Rattle.std.proofs.Common.{◌+◌, ◌^◌, ◌<◌, ◌∙◌, sym, subst, arith, length, take}
use Rattle.ro_settings.specs.declared.Mode.{Mode}
use Rattle.ro_plans.specs.Plans.{plan_in}
use Rattle.ro_plans.specs.Walks.{AddsSoMany}
use Rattle.ro_machine.proofs.length.plan_steps.Goals as goal

pub loop-place-preserved : goal.loop-place-preserved
loop-place-preserved c =
    let i = c.loop-place.invariant in
    let adds = subst (λ (mode : Mode). AddsSoMany mode c.args.journal.now c.loop-place.place c.count-next.result) i.mode c.count-next.ensures.adds in
    let few : length (plan_in c.args.mode (take (c.loop-place.place + 1) c.args.journal.now)) < 2 ^ 64 = omega (arith, adds, i.is, i.few) in
    record {
      mode = c.count-next.ensures.mode ∙ i.mode;
      passed = c.count-next.ensures.passed (subst (λ (mode : Mode). length (plan_in mode (take (c.loop-place.place + 1) c.args.journal.now)) < 2 ^ 64) (sym i.mode) few);
      is = omega (arith, i.is, adds);
      few = omega (arith, i.few);
    }
