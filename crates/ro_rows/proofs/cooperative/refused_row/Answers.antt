use Rattle.ro_rows.proofs.CooperativeRows.{refused-put, refused-short, refused-hit, refused-near, refused-ahead, refused-vote, refused-winner, refused-loser, refused-differ, refused-fits, refused-passes, refused-limit, refused-more, refused-other-steps}
use Rattle.ro_rows.proofs.cooperative.refused_row.Goals as goal

pub returns-clause-put : goal.returns-clause-put
returns-clause-put c = refused-put

pub returns-clause-short : goal.returns-clause-short
returns-clause-short c = refused-short

pub returns-clause-hit : goal.returns-clause-hit
returns-clause-hit c = refused-hit

pub returns-clause-near : goal.returns-clause-near
returns-clause-near c = refused-near

pub returns-clause-ahead : goal.returns-clause-ahead
returns-clause-ahead c = refused-ahead

pub returns-clause-vote : goal.returns-clause-vote
returns-clause-vote c = refused-vote

pub returns-clause-winner : goal.returns-clause-winner
returns-clause-winner c = refused-winner

pub returns-clause-loser : goal.returns-clause-loser
returns-clause-loser c = refused-loser

pub returns-clause-differ : goal.returns-clause-differ
returns-clause-differ c = refused-differ

pub returns-clause-fits : goal.returns-clause-fits
returns-clause-fits c = refused-fits

pub returns-clause-passes : goal.returns-clause-passes
returns-clause-passes c = refused-passes

pub returns-clause-limit : goal.returns-clause-limit
returns-clause-limit c = refused-limit

pub returns-clause-more : goal.returns-clause-more
returns-clause-more c = refused-more

pub returns-clause-other_steps : goal.returns-clause-other_steps
returns-clause-other_steps c = refused-other-steps
