use Rattle.ro_replica.proofs.Spans.{backs_page}
use Rattle.ro_replica.proofs.applying.back_page.Goals as goal

pub returns-in-Some-clause-backed : goal.returns-in-Some-clause-backed
returns-in-Some-clause-backed c = backs_page _ _ c.args.page c.in-Some.page c.in-Some.is c.back.ensures.backed
