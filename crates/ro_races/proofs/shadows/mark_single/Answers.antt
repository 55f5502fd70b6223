use Rattle.std.proofs.Common.{ℕ, length, ap, sym, ◌∙◌, subst}
use Rattle.ro_races.specs.Shadows.{Marks}
use Rattle.ro_races.proofs.Tables.{byte-marked}
use Rattle.ro_races.proofs.shadows.mark_single.Goals as goal

pub returns-clause-marks : goal.returns-clause-marks
returns-clause-marks c h =
    subst (λ (n : ℕ). Marks c.args.table.now.items (record { place = c.args.stretch.place; count = n }) c.args.thread c.args.place c.advance.new.table.items) (sym c.if-stretch-ne1.false)
    (byte-marked c.args.table.now.items c.advance.new.table.items c.args.stretch.place c.args.thread c.args.place (ap length (sym c.page_of.ensures) ∙ c.if-page_of.false) c.advance.ensures.advances)
