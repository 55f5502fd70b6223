use Rattle.std.proofs.Common.{ℕ, List, ◌+◌, ◌^◌, ◌<◌, ◌∙◌, sym, subst, arith, take, length}
use Rattle.std.proofs.lemmas.Result.{err_from_is_err_and}
use Rattle.ro_settings.specs.declared.Mode.{Mode}
use Rattle.ro_plans.specs.Plans.{plan_in}
use Rattle.ro_plans.specs.Walks.{Adds, stretch_steps}
use Rattle.ro_plans.proofs.Told.{plan-le}
use Rattle.ro_machine.specs.Parts.{Played}
use Rattle.ro_machine.proofs.Joined.{played-join, halts-later, halts-plan, plan-room}
use Rattle.ro_machine.proofs.playing.play_all.Goals as goal

pub play_told-requires-clause-steps : goal.play_told-requires-clause-steps
play_told-requires-clause-steps g c =
    let adds = subst (λ (mode : Mode). Adds mode c.args.journal.now c.loop-place.place c.steps-told.result) c.loop-place.invariant.mode c.steps-told.ensures.adds in
    plan-room c.args.mode c.args.journal.now c.loop-place.place c.steps-told.result 1000000000 c.loop-place.now.steps c.requires.length (omega (arith, c.loop-place.invariant.played.steps_are)) adds

pub returns-in_err-now-clause-halts : goal.returns-in_err-now-clause-halts
returns-in_err-now-clause-halts g c =
    let p = err_from_is_err_and c.from_residual.result c.from_residual.ensures.1 in
    let i = c.loop-place.invariant in
    let e = c.in_err-now.field-0.0 in
    let adds = subst (λ (mode : Mode). Adds mode c.args.journal.now c.loop-place.place c.steps-told.result) i.mode c.steps-told.ensures.adds in
    rw (p.1, p.2)
    (halts-plan c.args.plain.now c.args.mode c.args.journal.now c.loop-place.place c.steps-told.result _ _ _ _ _ e adds
    (halts-later c.args.plain.now c.loop-place.plain (plan_in c.args.mode (take c.loop-place.place c.args.journal.now)) (stretch_steps c.steps-told.result) _ _ _ _ _ 0 _ _ 0 i.played (g.K.Sink.failures c.args.out.now) (g.K.Sink.failures c.loop-place.out) (g.K.Sink.failures c.play_told.new.out) e i.calm c.in_err-now.ensures.halts))

pub loop-place-preserved : goal.loop-place-preserved
loop-place-preserved g c =
    let i = c.loop-place.invariant in
    let adds = subst (λ (mode : Mode). Adds mode c.args.journal.now c.loop-place.place c.steps-told.result) i.mode c.steps-told.ensures.adds in
    let few : length (plan_in c.args.mode (take (c.loop-place.place + 1) c.args.journal.now)) < 2 ^ 64 = omega (arith, c.requires.length, plan-le c.args.mode c.args.journal.now (c.loop-place.place + 1)) in
    record {
      mode = c.steps-told.ensures.mode ∙ i.mode;
      passed = c.steps-told.ensures.passed (subst (λ (mode : Mode). length (plan_in mode (take (c.loop-place.place + 1) c.args.journal.now)) < 2 ^ 64) (sym i.mode) few);
      bytes = c.in_ok-now.ensures.bytes;
      calm = c.in_ok-now.ensures.calm ∙ i.calm;
      played = subst (λ (xs : List ℕ). Played c.args.plain.now xs c.play_told.new.plain (g.K.Sink.held c.args.out.now) (g.K.Sink.held c.play_told.new.out) 0 c.in_ok-now.now.steps 0 c.in_ok-now.now.bytes) (sym adds)
          (played-join c.args.plain.now c.loop-place.plain (plan_in c.args.mode (take c.loop-place.place c.args.journal.now)) (stretch_steps c.steps-told.result) _ _ _ _ _ _ _ _ _ i.played c.play_told.new.plain c.in_ok-now.ensures.played);
    }
