use Rattle.std.proofs.Common.{rules, arith, ap, sym, subst, ◌∙◌, ◌≡◌, ◌+◌, ◌-◌, refl}
use Rattle.ro_exec.specs.declared.stretch.Stretch.{Stretch}
use Rattle.ro_exec.specs.Stretches.{IsAlong}
use Rattle.ro_thread.proofs.Instructions.{one_quick_more, one_slow_more, renamed, learnt_as, recounted, along_anew, along_still}
use Rattle.ro_thread.proofs.running.run.Goals as goal
use Rattle.ro_thread.proofs.running.run.Goals.{then-not-quick_step+in_default, else-not-quick_step}

pub loop-left-init : goal.loop-left-init
loop-left-init g c = record {
  few = omega arith;
  thread = search rules;
  same = search rules;
  places = search rules;
  learnt = c.requires.learnt;
  along = λ apart. absurd (apart refl);
  ran = search rules;
}

pub loop-left-preserved : goal.loop-left-preserved
loop-left-preserved g c = record {
  few = omega arith;
  thread = c.loop-left.invariant.thread;
  same = search rules;
  places = search rules;
  learnt = elim c.if-not-quick_step.branch [
    | then-not-quick_step+in_default w ↦ learnt_as _ _ _ _ _ _ w.slow_step-step.new.learnt (ap g.M.Memory.backing w.memory-is ∙ w.slow_step-step.ensures.pages) (ap g.M.Memory.kept w.memory-is ∙ w.slow_step-step.ensures.kept)
        (λ i. record { code = w.stretch-is i; reads = (w.learnt-is i).reads; writes = (w.learnt-is i).writes }) w.slow_step-step.ensures.learnt
    | else-not-quick_step w ↦ learnt_as _ _ _ _ _ _ _ (ap g.M.Memory.backing w.memory-is ∙ c.quick_step.ensures.pages) (ap g.M.Memory.kept w.memory-is ∙ c.quick_step.ensures.kept)
        (λ i. record { code = w.stretch-is i; reads = (w.learnt-is i).reads; writes = (w.learnt-is i).writes }) (record {
          aligned = c.quick_step.ensures.aligned;
          bounded = c.quick_step.ensures.bounded;
          clear = c.quick_step.ensures.clear;
          page = c.quick_step.ensures.page;
          reads = c.quick_step.ensures.reads;
          writes = c.quick_step.ensures.writes;
        })
  ];
  along = elim c.if-not-quick_step.branch [
    | then-not-quick_step+in_default w ↦ along_anew c.if-not-quick_step.stretch _ _ _ w.until-is w.pc-is
    | else-not-quick_step w ↦ along_still c.if-not-quick_step.stretch _ _ _ _ w.until-is w.pc-is (subst (λ (s : Stretch). IsAlong s c.quick_step.new.until c.quick_step.new.pc) (sym w.stretch-is) c.quick_step.ensures.along)
  ];
  ran = recounted _ _ _ _ c.args.thread.now _ _ _ _ (let one : (c.min-bound.result - c.loop-left.left) + 1 ≡ c.min-bound.result - (c.loop-left.left - 1) = omega arith in one) (elim c.if-not-quick_step.branch [
    | then-not-quick_step+in_default w ↦ renamed _ c.args.thread.now _ _ _ _ _ _ w.registers-is w.pc-is (ap g.M.Memory.memory w.memory-is)
        (one_slow_more _ _ _ _ _ _ _ _ _ _ _ _ _ _ _ _ (omega arith) c.loop-left.invariant.ran (search rules) w.if-not-quick_step.true c.quick_step.ensures.step w.in_default.is w.slow_step-step.ensures.step)
    | else-not-quick_step w ↦ renamed _ c.args.thread.now _ _ _ _ _ _ w.registers-is w.pc-is (ap g.M.Memory.memory w.memory-is)
        (one_quick_more _ _ _ _ _ _ _ _ _ _ _ _ (omega arith) c.loop-left.invariant.ran c.loop-left.invariant.same w.if-not-quick_step.false c.quick_step.ensures.step)
  ]);
}

pub slow_step-step-requires : goal.slow_step-step-requires
slow_step-step-requires g c = record {
  learnt = learnt_as _ _ _ _ _ _ _ c.quick_step.ensures.pages c.quick_step.ensures.kept refl (record {
    aligned = c.quick_step.ensures.aligned;
    bounded = c.quick_step.ensures.bounded;
    clear = c.quick_step.ensures.clear;
    page = c.quick_step.ensures.page;
    reads = c.quick_step.ensures.reads;
    writes = c.quick_step.ensures.writes;
  });
}

pub returns-in-Stopped-clause-learnt : goal.returns-in-Stopped-clause-learnt
returns-in-Stopped-clause-learnt g c =
    learnt_as _ _ _ _ _ _ c.slow_step-step.new.learnt (sym (c.quick_step.ensures.pages ∙ c.loop-left.invariant.same)) (sym (c.quick_step.ensures.kept ∙ c.loop-left.invariant.places)) refl c.slow_step-step.ensures.learnt

pub returns-clause-learnt : goal.returns-clause-learnt
returns-clause-learnt g c = learnt_as _ _ _ _ _ _ _ (sym c.loop-left.invariant.same) (sym c.loop-left.invariant.places) refl c.loop-left.invariant.learnt
