-- A lemma.
use Rattle.ro_coop.proofs.Followed.{follows-rows}
use Rattle.ro_coop.proofs.runs.replicas_follow_rows.Goals as goal

pub returns : goal.returns
returns c = follows-rows
