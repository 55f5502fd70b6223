use Rattle.ro_rows.proofs.EdgeRows.{waits-vote, waits-early, waits-first, waits-longer, waits-shorter, waits-lowest, waits-lend, waits-lend-early, waits-vote-first, waits-others, waits-own, waits-anew, waits-since, waits-freed, waits-other-freed}
use Rattle.ro_rows.proofs.edges.waits_row.Goals as goal

pub returns-clause-vote : goal.returns-clause-vote
returns-clause-vote c = waits-vote

pub returns-clause-early : goal.returns-clause-early
returns-clause-early c = waits-early

pub returns-clause-first : goal.returns-clause-first
returns-clause-first c = waits-first

pub returns-clause-longer : goal.returns-clause-longer
returns-clause-longer c = waits-longer

pub returns-clause-shorter : goal.returns-clause-shorter
returns-clause-shorter c = waits-shorter

pub returns-clause-lowest : goal.returns-clause-lowest
returns-clause-lowest c = waits-lowest

pub returns-clause-lend : goal.returns-clause-lend
returns-clause-lend c = waits-lend

pub returns-clause-lend_early : goal.returns-clause-lend_early
returns-clause-lend_early c = waits-lend-early

pub returns-clause-vote_first : goal.returns-clause-vote_first
returns-clause-vote_first c = waits-vote-first

pub returns-clause-others : goal.returns-clause-others
returns-clause-others c = waits-others

pub returns-clause-own : goal.returns-clause-own
returns-clause-own c = waits-own

pub returns-clause-anew : goal.returns-clause-anew
returns-clause-anew c = waits-anew

pub returns-clause-since : goal.returns-clause-since
returns-clause-since c = waits-since

pub returns-clause-freed : goal.returns-clause-freed
returns-clause-freed c = waits-freed

pub returns-clause-other_freed : goal.returns-clause-other_freed
returns-clause-other_freed c = waits-other-freed
