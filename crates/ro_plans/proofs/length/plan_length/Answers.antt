use Rattle.std.proofs.Common.{◌+◌, ◌^◌, ◌<◌, ◌∙◌, sym, subst, arith, length, take}
use Rattle.ro_settings.specs.declared.Mode.{Mode}
use Rattle.ro_plans.specs.Plans.{plan_in}
use Rattle.ro_plans.specs.Walks.{AddsSoMany}
use Rattle.ro_plans.proofs.Told.{plan-fits}
use Rattle.ro_plans.proofs.length.plan_length.Goals as goal

pub overflow_add-length : goal.overflow_add-length
overflow_add-length c =
    let i = c.loop-place.invariant in
    let adds = subst (λ (mode : Mode). AddsSoMany mode c.args.journal.now c.loop-place.place c.count-length.result) i.mode c.count-length.ensures.adds in
    omega (arith, i.length_is, adds, plan-fits c.args.mode c.args.journal.now (c.loop-place.place + 1) c.requires)

pub loop-place-preserved : goal.loop-place-preserved
loop-place-preserved c =
    let i = c.loop-place.invariant in
    let adds = subst (λ (mode : Mode). AddsSoMany mode c.args.journal.now c.loop-place.place c.count-length.result) i.mode c.count-length.ensures.adds in
    record {
      mode = c.count-length.ensures.mode ∙ i.mode;
      passed = c.count-length.ensures.passed (subst (λ (mode : Mode). length (plan_in mode (take (c.loop-place.place + 1) c.args.journal.now)) < 2 ^ 64) (sym i.mode) (plan-fits c.args.mode c.args.journal.now (c.loop-place.place + 1) c.requires));
      length_is = omega (arith, i.length_is, adds);
    }
