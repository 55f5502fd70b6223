use Rattle.ro_replica.proofs.Copies.{AreCopied}
use Rattle.ro_replica.proofs.copying.copy_threads.Given as goal

abbrev pub invariant-loop-i : goal.invariant-loop-i
invariant-loop-i l = AreCopied l.winners l.fn.losers l.losers l.i
