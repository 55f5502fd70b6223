use Rattle.std.proofs.Common.{ap, ◌∙◌}
use Rattle.ro_io.specs.Outside.{more}
use Rattle.ro_report.specs.Report.{journal_part, report_text}
use Rattle.ro_top.specs.Top.{text_in}
use Rattle.ro_top.proofs.Tells.{more_more, front_longer, front_behind, on_ok, on_err, always_on_err}
use Rattle.ro_top.proofs.reports.give_report.Goals as goal

pub returns-in_err-give_journal-clause-err : goal.returns-in_err-give_journal-clause-err
returns-in_err-give_journal-clause-err g c =
    always_on_err c.from_residual.result (front_longer _ _ (journal_part c.args.journal.now (text_in c.args.head)) (report_text c.args.mode c.args.journal.now c.args.bytes c.args.answer.now) c.in_err-give_journal.ensures.err)

pub returns-clause-ok : goal.returns-clause-ok
returns-clause-ok g c =
    on_ok c.give_lines.result
    (λ k. k ∙ ap (λ h. more h (report_text c.args.mode c.args.journal.now c.args.bytes c.args.answer.now)) c.in_ok-give_journal.ensures.ok ∙ more_more _ (journal_part c.args.journal.now (text_in c.args.head)) (report_text c.args.mode c.args.journal.now c.args.bytes c.args.answer.now))
    c.give_lines.ensures.ok

pub returns-clause-err : goal.returns-clause-err
returns-clause-err g c =
    on_err c.give_lines.result
    (λ k. front_behind _ _ _ (journal_part c.args.journal.now (text_in c.args.head)) (report_text c.args.mode c.args.journal.now c.args.bytes c.args.answer.now) c.in_ok-give_journal.ensures.ok k)
    c.give_lines.ensures.err
