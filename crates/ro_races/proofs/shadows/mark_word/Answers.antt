use Rattle.std.proofs.Common.{ℕ, length, ap, sym, ◌∙◌, subst}
use Rattle.ro_races.specs.Shadows.{Marks}
use Rattle.ro_races.proofs.Tables.{word-marked}
use Rattle.ro_races.proofs.shadows.mark_word.Goals as goal

pub returns-clause-marks : goal.returns-clause-marks
returns-clause-marks c h =
    subst (λ (n : ℕ). Marks c.args.table.now.items (record { place = c.args.stretch.place; count = n }) c.args.thread c.args.place c.advance.new.table.items) (sym c.if-stretch-ne4.false)
    (word-marked c.args.table.now.items c.advance.new.table.items c.args.stretch.place c.args.thread c.args.place c.if-stretch-ne0.false (ap length (sym c.page_of.ensures) ∙ c.if-page_of-ne-PAGE_WORDS.false) c.advance.ensures.advances)
