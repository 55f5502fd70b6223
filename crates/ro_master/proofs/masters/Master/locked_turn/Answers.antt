use Rattle.ro_master.proofs.masters.Master.locked_turn.Goals as goal

pub returns-clause-did : goal.returns-clause-did
returns-clause-did g c = record { old = c.deref_mut.result.now; new = c.turn-answer.new.self; tied = c.turn-answer.ensures.tied.0; now = c.turn-answer.ensures.tied.1; did = c.turn-answer.ensures.did }
