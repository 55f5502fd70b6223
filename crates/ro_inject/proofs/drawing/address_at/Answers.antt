use Rattle.std.proofs.Common.{arith, sym, ◌∙◌}
use Rattle.ro_inject.proofs.Places.{no_range, count-from, place-here, place-behind}
use Rattle.ro_inject.proofs.drawing.address_at.Goals as goal

pub returns-then-place-range : goal.returns-then-place-range
returns-then-place-range c =
    sym (place-here c.args.ranges.now c.loop-range.range-index c.loop-range.place no_range c.loop-range-test.true c.if-place-range.true) ∙ c.loop-range.invariant.same

pub loop-range-preserved : goal.loop-range-preserved
loop-range-preserved c =
    let more = count-from c.args.ranges.now c.loop-range.range-index no_range c.loop-range-test.true in
    record {
      within = omega (arith, more, c.loop-range.invariant.within, c.if-place-range.false);
      same = place-behind c.args.ranges.now c.loop-range.range-index c.loop-range.place no_range c.loop-range-test.true (omega (arith, c.if-place-range.false)) ∙ c.loop-range.invariant.same;
    }
