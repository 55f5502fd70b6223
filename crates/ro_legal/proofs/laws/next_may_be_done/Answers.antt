use Rattle.ro_legal.proofs.Nexts.{vote_next, free_next, scrub_next, lend_is_next, end_next, wait_next, over_is_next}
use Rattle.ro_legal.proofs.laws.next_may_be_done.Goals as goal

pub returns-clause-vote : goal.returns-clause-vote
returns-clause-vote c = vote_next

pub returns-clause-free : goal.returns-clause-free
returns-clause-free c = free_next

pub returns-clause-scrub : goal.returns-clause-scrub
returns-clause-scrub c = scrub_next

pub returns-clause-lend : goal.returns-clause-lend
returns-clause-lend c = lend_is_next

pub returns-clause-end : goal.returns-clause-end
returns-clause-end c = end_next

pub returns-clause-wait : goal.returns-clause-wait
returns-clause-wait c = wait_next

pub returns-clause-over : goal.returns-clause-over
returns-clause-over c = over_is_next
