use Rattle.std.proofs.Common.{refl}
use Rattle.std.specs.Arc.{arc_value}
use Rattle.std.proofs.lemmas.Result.{err_from_is_err_and}
use Rattle.ro_plans.specs.Plans.{plan_in}
use Rattle.ro_machine.proofs.Planned.{stops-begin, fails, runs-plan, stops-end}
use Rattle.ro_machine.proofs.running.run_plan.Goals as goal

pub returns-in_default-clause-fails : goal.returns-in_default-clause-fails
returns-in_default-clause-fails g c = (stops-begin (record { image = arc_value c.args.image.now; input = c.args.input.now }) (plan_in c.args.mode c.args.journal.now) (g.K.Sink.held c.args.out.now), refl)

pub returns-in_err-progress-clause-fails : goal.returns-in_err-progress-clause-fails
returns-in_err-progress-clause-fails g c =
    let p = err_from_is_err_and c.from_residual.result c.from_residual.ensures.1 in
    rw (p.1, p.2) (fails (record { image = arc_value c.args.image.now; input = c.args.input.now }) c.in-Ok.plain c.in-Ok.ensures.program c.in-Ok.ensures.opening (plan_in c.args.mode c.args.journal.now) (g.K.Sink.held c.args.out.now) (g.K.Sink.held c.play_all.new.out) (g.K.Sink.failures c.args.out.now) (g.K.Sink.failures c.play_all.new.out) c.in_err-progress.field-0.0 c.in_err-progress.ensures.halts)

pub returns-in-Ok-end_of-clause-runs : goal.returns-in-Ok-end_of-clause-runs
returns-in-Ok-end_of-clause-runs g c =
    runs-plan (record { image = arc_value c.args.image.now; input = c.args.input.now }) c.in-Ok.plain c.in-Ok.ensures.program c.in-Ok.ensures.opening c.play_all.new.plain (plan_in c.args.mode c.args.journal.now) (g.K.Sink.held c.args.out.now) (g.K.Sink.held c.play_all.new.out) 0 c.in_ok-progress.progress.steps c.in_ok-progress.progress.bytes c.in-Ok-end_of.how c.in_ok-progress.ensures.played c.in-Ok-end_of.ensures

pub returns-in-Err-clause-fails : goal.returns-in-Err-clause-fails
returns-in-Err-clause-fails g c = (
  stops-end (record { image = arc_value c.args.image.now; input = c.args.input.now }) c.in-Ok.plain c.in-Ok.ensures.program c.in-Ok.ensures.opening c.play_all.new.plain (plan_in c.args.mode c.args.journal.now) (g.K.Sink.held c.args.out.now) (g.K.Sink.held c.play_all.new.out) 0 c.in_ok-progress.progress.steps c.in_ok-progress.progress.bytes c.in_ok-progress.ensures.played,
  c.in_ok-progress.ensures.calm,
)
