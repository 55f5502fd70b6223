use Rattle.std.proofs.Common.{◌≡◌, ◌++◌, ℕ, List, Option, Some, Bor, rules, ap, sym, ◌∙◌, subst}
use Rattle.ro_io.specs.Outside.{more}
use Rattle.ro_journal_text.specs.Texts.{entries_text}
use Rattle.ro_report.specs.Report.{journal_part}
use Rattle.ro_top.specs.Top.{TakesFront, text_in}
use Rattle.ro_top.proofs.Tells.{more_more, front_longer, front_behind, shown_journal, on_ok, on_err, always_on_err}
use Rattle.ro_top.proofs.reports.give_journal.Goals as goal

pub returns-in_err-give_all-in-Some-clause-err : goal.returns-in_err-give_all-in-Some-clause-err
returns-in_err-give_all-in-Some-clause-err g c =
    let shown : c.in-Some.head.now ++ entries_text c.args.journal.now ≡ journal_part c.args.journal.now (Some c.in-Some.head.now) = search (shown_journal, rules) in
    let same : c.in-Some.head.now ++ entries_text c.args.journal.now ≡ journal_part c.args.journal.now (text_in c.args.head) =
    shown ∙ ap (λ (o : Option (Bor (List ℕ))). journal_part c.args.journal.now (text_in o)) (sym c.in-Some.is) in
    always_on_err c.from_residual.result
    (subst (TakesFront (g.E.Sink.held c.args.report.now) (g.E.Sink.held c.give_all.new.sink)) same (front_longer _ _ c.in-Some.head.now (entries_text c.args.journal.now) c.in_err-give_all-in-Some.ensures.err))

pub returns-in_ok-give_all-in-Some-clause-ok : goal.returns-in_ok-give_all-in-Some-clause-ok
returns-in_ok-give_all-in-Some-clause-ok g c =
    let shown : c.in-Some.head.now ++ entries_text c.args.journal.now ≡ journal_part c.args.journal.now (Some c.in-Some.head.now) = search (shown_journal, rules) in
    let same : c.in-Some.head.now ++ entries_text c.args.journal.now ≡ journal_part c.args.journal.now (text_in c.args.head) =
    shown ∙ ap (λ (o : Option (Bor (List ℕ))). journal_part c.args.journal.now (text_in o)) (sym c.in-Some.is) in
    on_ok c.give_entries.result
    (λ k. k ∙ ap (λ h. more h (entries_text c.args.journal.now)) c.in_ok-give_all-in-Some.ensures.ok ∙ more_more _ c.in-Some.head.now (entries_text c.args.journal.now) ∙ ap (more _) same)
    c.give_entries.ensures.ok

pub returns-in_ok-give_all-in-Some-clause-err : goal.returns-in_ok-give_all-in-Some-clause-err
returns-in_ok-give_all-in-Some-clause-err g c =
    let shown : c.in-Some.head.now ++ entries_text c.args.journal.now ≡ journal_part c.args.journal.now (Some c.in-Some.head.now) = search (shown_journal, rules) in
    let same : c.in-Some.head.now ++ entries_text c.args.journal.now ≡ journal_part c.args.journal.now (text_in c.args.head) =
    shown ∙ ap (λ (o : Option (Bor (List ℕ))). journal_part c.args.journal.now (text_in o)) (sym c.in-Some.is) in
    on_err c.give_entries.result
    (λ k. subst (TakesFront (g.E.Sink.held c.args.report.now) (g.E.Sink.held c.give_entries.new.report)) same
    (front_behind _ _ _ c.in-Some.head.now (entries_text c.args.journal.now) c.in_ok-give_all-in-Some.ensures.ok k))
    c.give_entries.ensures.err
