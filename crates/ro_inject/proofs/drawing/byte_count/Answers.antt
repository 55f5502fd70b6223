use Rattle.std.proofs.Common.{arith}
use Rattle.ro_inject.proofs.Places.{no_range, count-from}
use Rattle.ro_inject.proofs.drawing.byte_count.Goals as goal

pub overflow_add-count : goal.overflow_add-count
overflow_add-count c =
    let more = count-from c.args.ranges.now c.loop-range.range-index no_range c.loop-range-test.true in
    omega (arith, more, c.loop-range.invariant, c.requires)

pub loop-range-preserved : goal.loop-range-preserved
loop-range-preserved c =
    let more = count-from c.args.ranges.now c.loop-range.range-index no_range c.loop-range-test.true in
    omega (arith, more, c.loop-range.invariant)
