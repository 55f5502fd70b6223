use Rattle.ro_rows.proofs.SharedRow.{shared-race-free, shared-covered, driven-covered, shared-decides, shared-the-same, shared-parts, shared-more-parts}
use Rattle.ro_rows.proofs.lending.shared_row.Goals as goal

pub returns-clause-race_free : goal.returns-clause-race_free
returns-clause-race_free c = shared-race-free

pub returns-clause-shared : goal.returns-clause-shared
returns-clause-shared c = shared-covered

pub returns-clause-driven : goal.returns-clause-driven
returns-clause-driven c = driven-covered

pub returns-clause-decides : goal.returns-clause-decides
returns-clause-decides c = shared-decides

pub returns-clause-the_same : goal.returns-clause-the_same
returns-clause-the_same c = shared-the-same

pub returns-clause-parts : goal.returns-clause-parts
returns-clause-parts c = shared-parts

pub returns-clause-more_parts : goal.returns-clause-more_parts
returns-clause-more_parts c = shared-more-parts
