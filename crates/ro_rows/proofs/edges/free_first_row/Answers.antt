-- The parts are lemmas.
use Rattle.ro_rows.proofs.EdgeRows.{free-first-decides, free-first-legal, free-first-votes, free-first-hits, free-first-steps, free-first-output}
use Rattle.ro_rows.proofs.edges.free_first_row.Goals as goal

pub returns-clause-decides : goal.returns-clause-decides
returns-clause-decides c = free-first-decides

pub returns-clause-legal : goal.returns-clause-legal
returns-clause-legal c = free-first-legal

pub returns-clause-votes : goal.returns-clause-votes
returns-clause-votes c = free-first-votes

pub returns-clause-hits : goal.returns-clause-hits
returns-clause-hits c = free-first-hits

pub returns-clause-steps : goal.returns-clause-steps
returns-clause-steps c = free-first-steps

pub returns-clause-output : goal.returns-clause-output
returns-clause-output c = free-first-output
