use Rattle.ro_coop_core.proofs.cores.Core.longest_to_free.Goals as goal

pub outwaits-requires-clause-other : goal.outwaits-requires-clause-other
outwaits-requires-clause-other c = c.loop-thread.invariant.1
