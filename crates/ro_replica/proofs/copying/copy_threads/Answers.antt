use Rattle.std.proofs.Common.{arith, refl}
use Rattle.ro_replica.proofs.Copies.{copied_more, copied_all, no_thread}
use Rattle.ro_replica.proofs.copying.copy_threads.Goals as goal

pub loop-i-preserved : goal.loop-i-preserved
loop-i-preserved c = copied_more c.args.winners.now c.args.losers.now c.loop-i.losers c.loop-i.i _ _ no_thread no_thread (omega arith) (omega arith) refl refl c.loop-i.invariant

pub returns : goal.returns
returns c = copied_all c.args.winners.now c.args.losers.now c.loop-i.losers c.loop-i.i (omega arith) (omega arith) c.loop-i.invariant
