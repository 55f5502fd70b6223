-- It is a lemma.
use Rattle.ro_legal.proofs.Upsets.{in-time-moments}
use Rattle.ro_legal.proofs.corruptions.scrubs_come_in_time_still.Goals as goal

pub returns : goal.returns
returns c job some moments possible next = in-time-moments job some moments possible next
