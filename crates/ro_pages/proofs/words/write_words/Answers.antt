use Rattle.std.proofs.Common.{arith}
use Rattle.ro_pages.proofs.Stretches.{word_more}
use Rattle.ro_pages.proofs.words.write_words.Goals as goal

pub loop-k-preserved : goal.loop-k-preserved
loop-k-preserved c = word_more _ _ _ c.args.first c.args.bytes.now c.loop-k.k c.word_at.result (omega arith) c.loop-k.invariant c.word_at.ensures c.set_word.ensures
