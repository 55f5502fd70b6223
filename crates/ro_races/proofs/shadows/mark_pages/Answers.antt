use Rattle.std.proofs.Common.{ℕ, ◌≡◌, ◌+◌, subst, ap₂, refl, arith}
use Rattle.ro_races.specs.Shadows.{Marks}
use Rattle.ro_races.proofs.Tables.{marks-join, some-more}
use Rattle.ro_races.proofs.shadows.mark_pages.Goals as goal

pub loop-done-preserved : goal.loop-done-preserved
loop-done-preserved c =
    let i = c.loop-done.invariant in
    let at : c.from.result + c.from-in-loop-done.result ≡ c.args.stretch.place + c.loop-done.done = ap₂ (λ (x y : ℕ). x + y) c.from.ensures c.from-in-loop-done.ensures in
    record {
      few = (let less = c.part_of-count.ensures.within in let test = c.loop-done-test.true in omega arith);
      whole = c.mark_part.ensures.table;
      marks = marks-join (record { place = c.args.stretch.place; count = c.loop-done.done + c.part_of-count.result }) (record { place = c.args.stretch.place; count = c.loop-done.done }) (record { place = c.args.stretch.place + c.loop-done.done; count = c.part_of-count.result }) c.args.thread c.args.place c.args.table.now.items c.loop-done.table.items c.loop-done.table.items c.mark_part.new.table.items
          (some-more c.args.stretch.place c.loop-done.done c.part_of-count.result) i.marks (λ x u. refl)
          (subst (λ (b : ℕ). Marks c.loop-done.table.items (record { place = b; count = c.part_of-count.result }) c.args.thread c.args.place c.mark_part.new.table.items) at c.in_ok-mark_part.ensures.marks);
    }
