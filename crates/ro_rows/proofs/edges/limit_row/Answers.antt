-- The parts are lemmas.
use Rattle.ro_rows.proofs.EdgeRows.{limit-vote-fits, limit-no-limit, limit-vote-passes, limit-limit, limit-free-fits, limit-no-free-limit, limit-free-passes, limit-free-limit}
use Rattle.ro_rows.proofs.edges.limit_row.Goals as goal

pub returns-clause-vote_fits : goal.returns-clause-vote_fits
returns-clause-vote_fits c = limit-vote-fits

pub returns-clause-no_limit : goal.returns-clause-no_limit
returns-clause-no_limit c = limit-no-limit

pub returns-clause-vote_passes : goal.returns-clause-vote_passes
returns-clause-vote_passes c = limit-vote-passes

pub returns-clause-limit : goal.returns-clause-limit
returns-clause-limit c = limit-limit

pub returns-clause-free_fits : goal.returns-clause-free_fits
returns-clause-free_fits c = limit-free-fits

pub returns-clause-no_free_limit : goal.returns-clause-no_free_limit
returns-clause-no_free_limit c = limit-no-free-limit

pub returns-clause-free_passes : goal.returns-clause-free_passes
returns-clause-free_passes c = limit-free-passes

pub returns-clause-free_limit : goal.returns-clause-free_limit
returns-clause-free_limit c = limit-free-limit
