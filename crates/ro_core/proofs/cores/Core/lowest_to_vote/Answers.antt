use Rattle.std.proofs.Common.{◌<◌, sym, arith}
use Rattle.ro_legal.specs.Core.{may_vote}
use Rattle.ro_legal.specs.Action.{threads_made}
use Rattle.ro_legal.proofs.Lowest.{lowest-found}
use Rattle.ro_core.specs.Runs.{fields_of, state_of}
use Rattle.ro_core.proofs.Tests.{made-is, none-voted}
use Rattle.ro_core.proofs.cores.Core.lowest_to_vote.Goals as goal

pub returns-then-can_vote : goal.returns-then-can_vote
returns-then-can_vote c =
    let less : c.loop-thread.thread < threads_made (state_of c.args.self.now) = omega (arith, made-is (fields_of c.args.self.now) c.requires.holds, c.made-thread-end.ensures.made, c.loop-thread-test.true) in
    sym (lowest-found (may_vote (state_of c.args.self.now)) c.loop-thread.thread (threads_made (state_of c.args.self.now)) less c.loop-thread.invariant (sym c.if-can_vote.ensures))

pub returns-then-not-is_idle : goal.returns-then-not-is_idle
returns-then-not-is_idle c = sym (none-voted (state_of c.args.self.now) (threads_made (state_of c.args.self.now)) (sym c.if-not-is_idle.ensures))
