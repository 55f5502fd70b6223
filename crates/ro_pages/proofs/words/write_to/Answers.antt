use Rattle.std.proofs.Common.{arith}
use Rattle.ro_pages.proofs.Stretches.{stored_more}
use Rattle.ro_pages.proofs.words.write_to.Goals as goal

pub loop-done-preserved : goal.loop-done-preserved
loop-done-preserved c = record {
  within = omega arith;
  written =
      stored_more _ _ _ _ _ c.loop-done.done c.write_more-done.result c.loop-done.invariant.within (omega arith) c.loop-done.invariant.written
      c.write_more-done.ensures.written;
}
