use Rattle.std.proofs.Common.{ℕ, List, refl, sym, subst}
use Rattle.ro_image.specs.Image.{Image}
use Rattle.ro_journal.specs.declared.Entry.{Entry}
use Rattle.ro_plans.specs.Plans.{plan_in}
use Rattle.ro_machine.specs.Lengths.{IsLength}
use Rattle.ro_machine.specs.Plans.{RunsPlan}
use Rattle.ro_machine.proofs.Planned.{stops-begin}
use Rattle.ro_plain.specs.Machine.{Program}
use Rattle.ro_top.specs.declared.playing.Played.{Played}
use Rattle.ro_top.specs.Ends.{PlanCause}
use Rattle.ro_top.proofs.Plays.{whole_cause}
use Rattle.ro_top.proofs.playing.play.Goals as goal

pub returns-in-Ok-run_plan : goal.returns-in-Ok-run_plan
returns-in-Ok-run_plan g c = record {
  cause = whole_cause _ _ c.args.replay.mode c.args.replay.journal.items c.in-Ok-run_plan.field-0.how c.answer_behind.result c.answer_behind.ensures (record {
    length_is = subst (λ (js : List Entry). IsLength c.args.replay.mode js c.in-Ok.steps) c.as_slice.ensures.value c.in-Ok.ensures.steps;
    calm = c.in-Ok-run_plan.ensures.calm;
    runs =
        subst (λ (js : List Entry). RunsPlan (record { image = c.args.replay.image; input = c.args.replay.input.items }) (plan_in c.args.replay.mode js) (g.K.Sink.held c.args.out.now) (g.K.Sink.held c.run_plan.new.out) c.in-Ok-run_plan.field-0.how c.in-Ok-run_plan.field-0.bytes)
        c.as_slice-3.ensures.value
        (subst (λ (bytes : List ℕ). RunsPlan (record { image = c.args.replay.image; input = bytes }) (plan_in c.args.replay.mode c.as_slice-3.result.now) (g.K.Sink.held c.args.out.now) (g.K.Sink.held c.run_plan.new.out) c.in-Ok-run_plan.field-0.how c.in-Ok-run_plan.field-0.bytes)
        c.as_slice-2.ensures.value
        (subst (λ (image : Image). RunsPlan (record { image = image; input = c.as_slice-2.result.now }) (plan_in c.args.replay.mode c.as_slice-3.result.now) (g.K.Sink.held c.args.out.now) (g.K.Sink.held c.run_plan.new.out) c.in-Ok-run_plan.field-0.how c.in-Ok-run_plan.field-0.bytes)
        c.in-Ok-new.ensures.ok c.in-Ok-run_plan.ensures.runs));
  });
}

pub returns-in_default : goal.returns-in_default
returns-in_default g c = record {
  cause =
      let program : Program = record { image = c.args.replay.image; input = c.args.replay.input.items } in
      let held = g.K.Sink.held c.args.out.now in
      let count = g.K.Sink.failures c.args.out.now in
      subst (λ (p : Played). PlanCause (record { answer = p.answer; steps = p.steps; bytes = p.bytes; held_before = held; held_after = held; failures_before = count; failures_after = count }) program c.args.replay.mode c.args.replay.journal.items p.answer)
      (sym c.unplayed-in_default.ensures) (stops-begin program (plan_in c.args.replay.mode c.args.replay.journal.items) held, refl);
}
