use Rattle.test_peers.proofs.Openings.{opened_ready}
use Rattle.test_peers.proofs.locking.opened.Goals as goal

pub returns-clause-free : goal.returns-clause-free
returns-clause-free g c = (opened_ready _ _ _ _ c.in_ok-peer.peer c.enter.new.self _ _ c.in_ok-replica.ensures.opening c.in_ok-replica-2.ensures c.in_ok-peer.ensures.0 c.enter.ensures.entering).free

pub returns-clause-going : goal.returns-clause-going
returns-clause-going g c = (opened_ready _ _ _ _ c.in_ok-peer.peer c.enter.new.self _ _ c.in_ok-replica.ensures.opening c.in_ok-replica-2.ensures c.in_ok-peer.ensures.0 c.enter.ensures.entering).going

pub returns-clause-countable : goal.returns-clause-countable
returns-clause-countable g c = (opened_ready _ _ _ _ c.in_ok-peer.peer c.enter.new.self _ _ c.in_ok-replica.ensures.opening c.in_ok-replica-2.ensures c.in_ok-peer.ensures.0 c.enter.ensures.entering).countable
