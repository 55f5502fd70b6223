use Rattle.std.proofs.Common.{◌≡◌, ◌++◌, ◌∷◌, rules, ap, ◌∙◌, subst}
use Rattle.ro_io.specs.Outside.{more}
use Rattle.ro_journal_text.specs.Texts.{entry_text}
use Rattle.ro_top.specs.Top.{TakesFront}
use Rattle.ro_top.proofs.Tells.{told_more, entry_more, entry_front, always_on_err}
use Rattle.ro_top.proofs.reports.give_entries.Goals as goal

pub returns-in_err-give_all-clause-err : goal.returns-in_err-give_all-clause-err
returns-in_err-give_all-clause-err g c =
    let i = c.loop-entry.invariant in
    let split : c.loop-entry.rest.now ≡ c.in-Some.entry.now ∷ c.in-Some.behind.now = search rules in
    let line = c.as_bytes.ensures.bytes ∙ c.entry_text.ensures in
    always_on_err c.from_residual.result (entry_front _ _ _ c.args.journal.now c.loop-entry.rest.now c.in-Some.behind.now i.0 c.in-Some.entry.now split i.1 i.2 (subst (TakesFront _ _) line c.in_err-give_all.ensures.err))

pub loop-entry-preserved : goal.loop-entry-preserved
loop-entry-preserved g c =
    let i = c.loop-entry.invariant in
    let split : c.loop-entry.rest.now ≡ c.in-Some.entry.now ∷ c.in-Some.behind.now = search rules in
    let line = c.as_bytes.ensures.bytes ∙ c.entry_text.ensures in (
      i.0 ++ entry_text c.in-Some.entry.now,
      entry_more c.args.journal.now c.loop-entry.rest.now c.in-Some.behind.now i.0 c.in-Some.entry.now split i.1,
      told_more _ _ _ i.0 (entry_text c.in-Some.entry.now) i.2 (c.in_ok-give_all.ensures.ok ∙ ap (more (g.E.Sink.held c.loop-entry.report)) line),
      c.in_ok-give_all.ensures.calm ∙ i.3,
    )
