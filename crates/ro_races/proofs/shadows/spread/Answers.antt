use Rattle.std.proofs.Common.{[], ◌∙◌}
use Rattle.std.proofs.lemmas.List.{length-set}
use Rattle.ro_races.proofs.Tables.{spread-more}
use Rattle.ro_races.proofs.shadows.spread.Goals as goal

pub loop-byte-preserved : goal.loop-byte-preserved
loop-byte-preserved c = record {
  count = length-set c.loop-byte.bytes.items c.loop-byte.byte _ ∙ c.loop-byte.invariant.count;
  same = spread-more c.loop-byte.bytes.items c.args.words.now c.loop-byte.byte (record { seen = [] }) c.loop-byte.invariant.count c.requires c.loop-byte-test.true c.loop-byte.invariant.same;
}
