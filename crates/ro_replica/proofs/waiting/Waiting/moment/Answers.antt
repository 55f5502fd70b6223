use Rattle.std.proofs.Common.{subst}
use Rattle.ro_replica.specs.Seen.{AreLater}
use Rattle.ro_replica.proofs.Moments.{none_before}
use Rattle.ro_replica.proofs.waiting.Waiting.moment.Goals as goal

pub returns-then-thread-lt-PLACES : goal.returns-then-thread-lt-PLACES
returns-then-thread-lt-PLACES c done before =
    none_before c.self.inside.moments c.args.self.now c.args.thread done c.from.result (subst (AreLater c.self.inside.moments) c.self.view_is c.self.invariant) c.from.ensures before
