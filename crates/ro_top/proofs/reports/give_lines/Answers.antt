use Rattle.std.proofs.Common.{ap, ◌∙◌, subst}
use Rattle.ro_report.specs.Report.{answer_text}
use Rattle.ro_io.specs.Outside.{more}
use Rattle.ro_top.specs.Top.{TakesFront, summary_part}
use Rattle.ro_top.proofs.Tells.{more_more, front_longer, front_behind, report_parts, on_ok, on_err, always_on_err}
use Rattle.ro_top.proofs.reports.give_lines.Goals as goal

pub returns-in_err-give_summary-clause-err : goal.returns-in_err-give_summary-clause-err
returns-in_err-give_summary-clause-err g c =
    always_on_err c.from_residual.result
    (subst (TakesFront (g.E.Sink.held c.args.report.now) (g.E.Sink.held c.give_summary.new.report)) (report_parts c.args.mode c.args.journal.now c.args.bytes c.args.answer.now) (front_longer _ _ (summary_part c.args.mode c.args.journal.now c.args.bytes) (answer_text c.args.answer.now) c.in_err-give_summary.ensures.err))

pub returns-clause-ok : goal.returns-clause-ok
returns-clause-ok g c =
    on_ok c.give_all.result
    (λ k. k ∙ ap (more _) (c.as_bytes.ensures.bytes ∙ c.answer_line.ensures) ∙ ap (λ h. more h (answer_text c.args.answer.now)) c.in_ok-give_summary.ensures.ok
    ∙ more_more _ (summary_part c.args.mode c.args.journal.now c.args.bytes) (answer_text c.args.answer.now) ∙ ap (more _) (report_parts c.args.mode c.args.journal.now c.args.bytes c.args.answer.now))
    c.give_all.ensures.ok

pub returns-clause-err : goal.returns-clause-err
returns-clause-err g c =
    on_err c.give_all.result
    (λ k. subst (TakesFront (g.E.Sink.held c.args.report.now) (g.E.Sink.held c.give_all.new.sink)) (report_parts c.args.mode c.args.journal.now c.args.bytes c.args.answer.now)
    (front_behind _ _ _ (summary_part c.args.mode c.args.journal.now c.args.bytes) (answer_text c.args.answer.now) c.in_ok-give_summary.ensures.ok (subst (TakesFront (g.E.Sink.held c.give_summary.new.report) (g.E.Sink.held c.give_all.new.sink)) (c.as_bytes.ensures.bytes ∙ c.answer_line.ensures) k)))
    c.give_all.ensures.err
