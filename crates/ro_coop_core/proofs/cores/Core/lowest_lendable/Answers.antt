use Rattle.std.proofs.Common.{◌<◌, sym, arith}
use Rattle.ro_legal.specs.Core.{is_lendable}
use Rattle.ro_legal.specs.Action.{threads_made}
use Rattle.ro_legal.proofs.Lowest.{lowest-found}
use Rattle.ro_coop_core.specs.Runs.{fields_of, state_of}
use Rattle.ro_coop_core.proofs.Tests.{made-is}
use Rattle.ro_coop_core.proofs.cores.Core.lowest_lendable.Goals as goal

pub returns-then-is_lendable : goal.returns-then-is_lendable
returns-then-is_lendable c =
    let less : c.loop-thread.thread < threads_made (state_of c.args.self.now) = omega (arith, made-is (fields_of c.args.self.now) c.requires.holds, c.made-thread-end.ensures.made, c.loop-thread-test.true) in
    sym (lowest-found (is_lendable (state_of c.args.self.now) c.args.replica) c.loop-thread.thread (threads_made (state_of c.args.self.now)) less c.loop-thread.invariant (sym c.if-is_lendable.ensures))
