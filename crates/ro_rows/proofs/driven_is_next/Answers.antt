-- The law is a lemma.
use Rattle.ro_rows.proofs.DrivenNext.{driven-next}
use Rattle.ro_rows.proofs.driven_is_next.Goals as goal

pub returns : goal.returns
returns c = driven-next
