use Rattle.std.proofs.Common.{ℕ, ◌≡◌, ◌+◌, subst, ap, arith}
use Rattle.ro_races.specs.Shadows.{Marks}
use Rattle.ro_races.proofs.Tables.{marks-join, marks-none, one-more}
use Rattle.ro_races.proofs.shadows.mark_bytes.Goals as goal

pub loop-offset-init : goal.loop-offset-init
loop-offset-init c = record { whole = c.requires.table; marks = marks-none c.args.first c.args.thread c.args.place c.args.table.now.items }

pub split-requires-clause-table : goal.split-requires-clause-table
split-requires-clause-table c = c.loop-offset.invariant.whole

pub loop-offset-preserved : goal.loop-offset-preserved
loop-offset-preserved c =
    let at : c.args.first + c.from.result ≡ c.args.first + c.loop-offset.offset = ap (λ (x : ℕ). c.args.first + x) c.from.ensures in
    record {
      whole = c.mark_byte.ensures.table;
      marks = marks-join (record { place = c.args.first; count = c.loop-offset.offset + 1 }) (record { place = c.args.first; count = c.loop-offset.offset }) (record { place = c.args.first + c.loop-offset.offset; count = 1 }) c.args.thread c.args.place c.args.table.now.items c.loop-offset.table.items c.split.new.table.items c.mark_byte.new.table.items
          (one-more c.args.first c.loop-offset.offset) c.loop-offset.invariant.marks c.in_ok-split.ensures.same
          (subst (λ (b : ℕ). Marks c.split.new.table.items (record { place = b; count = 1 }) c.args.thread c.args.place c.mark_byte.new.table.items) at c.mark_byte.ensures.marks);
    }

pub returns-clause-marks : goal.returns-clause-marks
returns-clause-marks c =
    let end : c.loop-offset.offset ≡ c.args.count = omega arith in
    subst (λ (n : ℕ). Marks c.args.table.now.items (record { place = c.args.first; count = n }) c.args.thread c.args.place c.loop-offset.table.items) end c.loop-offset.invariant.marks
