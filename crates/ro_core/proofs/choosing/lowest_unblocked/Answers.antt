use Rattle.std.proofs.Common.{◌<◌, length, sym, arith}
use Rattle.ro_legal.proofs.Lowest.{lowest-found}
use Rattle.ro_core.specs.Fields.{is_unblocked}
use Rattle.ro_core.proofs.choosing.lowest_unblocked.Goals as goal

pub returns-then-goes_on : goal.returns-then-goes_on
returns-then-goes_on c =
    let kernel = c.args.kernel.now in
    let less : c.loop-thread.thread < length kernel.kernel.lives = omega (arith, c.made-thread-end.ensures.made, c.loop-thread-test.true) in
    sym (lowest-found (is_unblocked kernel.setup kernel.kernel c.args.blocked.now) c.loop-thread.thread (length kernel.kernel.lives) less c.loop-thread.invariant (sym c.if-goes_on.ensures))
