use Rattle.std.proofs.Common.{length, ap, sym, ◌∙◌}
use Rattle.ro_machine.proofs.Stepping.{on-ok}
use Rattle.ro_races.proofs.Tables.{marks-later, page-marked}
use Rattle.ro_races.proofs.shadows.mark_page.Goals as goal

pub returns-then-page_of-ne1-clause-marks : goal.returns-then-page_of-ne1-clause-marks
returns-then-page_of-ne1-clause-marks c =
    on-ok c.mark_bytes.result _ _
    (marks-later (record { place = c.args.byte; count = 4096 }) c.args.thread c.args.place c.args.table.now.items c.cover.new.table.items c.mark_bytes.new.table.items c.in_ok-cover.ensures.same)
    c.mark_bytes.ensures.marks

pub returns-clause-marks : goal.returns-clause-marks
returns-clause-marks c =
    marks-later (record { place = c.args.byte; count = 4096 }) c.args.thread c.args.place c.args.table.now.items c.cover.new.table.items c.advance.new.table.items c.in_ok-cover.ensures.same
    (page-marked c.cover.new.table.items c.advance.new.table.items c.args.byte c.args.thread c.args.place c.requires.page (ap length (sym c.page_of.ensures) ∙ c.if-page_of-ne1.false) c.advance.ensures.advances)
