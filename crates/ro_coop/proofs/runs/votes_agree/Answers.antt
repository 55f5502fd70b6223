-- A lemma.
use Rattle.ro_coop.proofs.Rules.{views-agree}
use Rattle.ro_coop.proofs.runs.votes_agree.Goals as goal

pub returns : goal.returns
returns c = views-agree
