-- The parts are lemmas.
use Rattle.ro_coop.proofs.Contested.{reserving-legal, reserving-may, reserving-agrees, reserving-fails, skipping-may, skipping-views, skipping-succeeds, skipping-differs, skipping-not}
use Rattle.ro_coop.proofs.contests.reserving_row.Goals as goal

pub returns-clause-legal : goal.returns-clause-legal
returns-clause-legal c = reserving-legal

pub returns-clause-may : goal.returns-clause-may
returns-clause-may c = reserving-may

pub returns-clause-agree : goal.returns-clause-agree
returns-clause-agree c = reserving-agrees

pub returns-clause-fails : goal.returns-clause-fails
returns-clause-fails c = reserving-fails

pub returns-clause-may_too : goal.returns-clause-may_too
returns-clause-may_too c = skipping-may

pub returns-clause-same_views : goal.returns-clause-same_views
returns-clause-same_views c = skipping-views

pub returns-clause-would_succeed : goal.returns-clause-would_succeed
returns-clause-would_succeed c = skipping-succeeds

pub returns-clause-differs : goal.returns-clause-differs
returns-clause-differs c = skipping-differs

pub returns-clause-no_vote : goal.returns-clause-no_vote
returns-clause-no_vote c = skipping-not
