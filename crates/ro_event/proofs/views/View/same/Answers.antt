-- The answer is a test of equality, so it is the one of the definition.
use Rattle.std.proofs.Common.{rules}
use Rattle.ro_event.proofs.Same.{same_view-decides}
use Rattle.ro_event.proofs.views.View.same.Goals as goal

pub returns-then-stands_like-clause-test : goal.returns-then-stands_like-clause-test
returns-then-stands_like-clause-test c =
    same_view-decides c.eq.result c.args.self.now c.args.other.now (search rules)

pub returns-else-stands_like-clause-test : goal.returns-else-stands_like-clause-test
returns-else-stands_like-clause-test c =
    same_view-decides c.stands_like.result c.args.self.now c.args.other.now (search rules)
