use Rattle.std.proofs.Common.{◌∙◌, subst}
use Rattle.ro_report.specs.Report.{answer_text}
use Rattle.ro_top.specs.Top.{TakesFront, plain_part}
use Rattle.ro_top.proofs.Tells.{front_longer, front_behind, on_err, always_on_err}
use Rattle.ro_top.proofs.reports.give_plan.Goals as goal

pub returns-in_err-give_steps-clause-err : goal.returns-in_err-give_steps-clause-err
returns-in_err-give_steps-clause-err g c =
    always_on_err c.from_residual.result (front_longer _ _ (plain_part c.args.steps c.args.bytes c.args.answer.now) (answer_text c.args.answer.now) c.in_err-give_steps.ensures.err)

pub returns-clause-err : goal.returns-clause-err
returns-clause-err g c =
    on_err c.give_all.result
    (λ k. front_behind _ _ _ (plain_part c.args.steps c.args.bytes c.args.answer.now) (answer_text c.args.answer.now) c.in_ok-give_steps.ensures.ok
    (subst (TakesFront (g.E.Sink.held c.give_steps.new.report) (g.E.Sink.held c.give_all.new.sink)) (c.as_bytes.ensures.bytes ∙ c.answer_line.ensures) k))
    c.give_all.ensures.err
