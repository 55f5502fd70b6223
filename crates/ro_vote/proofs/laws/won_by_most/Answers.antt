-- Each part is a lemma.
use Rattle.ro_vote.proofs.Answered.{split-says, won-says}
use Rattle.ro_vote.proofs.Verdicts.{winner-stays, few-lose}
use Rattle.ro_vote.proofs.laws.won_by_most.Goals as goal

pub returns-clause-won : goal.returns-clause-won
returns-clause-won c = won-says

pub returns-clause-winner_stays : goal.returns-clause-winner_stays
returns-clause-winner_stays c = winner-stays

pub returns-clause-few_lose : goal.returns-clause-few_lose
returns-clause-few_lose c = few-lose

pub returns-clause-split : goal.returns-clause-split
returns-clause-split c = split-says
