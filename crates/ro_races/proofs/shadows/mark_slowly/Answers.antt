use Rattle.std.proofs.Common.{ℕ, OnOk, ap, ◌∙◌, subst}
use Rattle.ro_machine.specs.Watched.{span_of}
use Rattle.ro_machine.proofs.Stepping.{on-ok}
use Rattle.ro_races.specs.Shadows.{Shadow, Marks, marks_at}
use Rattle.ro_races.proofs.Tables.{marks-later}
use Rattle.ro_races.proofs.shadows.mark_slowly.Goals as goal

pub returns-clause-marks : goal.returns-clause-marks
returns-clause-marks c =
    on-ok c.mark_bytes.result _ _
    (marks-later (span_of c.args.stretch) c.args.thread c.args.place c.args.table.now.items c.mark_word.new.table.items c.mark_bytes.new.table.items
    (λ x u. ap (λ (t : Shadow). marks_at t x u) (c.mark_word.ensures.left c.if-mark_word.false) ∙ c.in_ok-touch.ensures.same x u))
    (subst (λ (b : ℕ). OnOk c.mark_bytes.result (Marks c.mark_word.new.table.items (record { place = b; count = c.args.stretch.count }) c.args.thread c.args.place c.mark_bytes.new.table.items)) c.from.ensures c.mark_bytes.ensures.marks)
