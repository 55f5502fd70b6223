use Rattle.ro_master.proofs.masters.Master.locked_next.Goals as goal

pub returns-clause-did : goal.returns-clause-did
returns-clause-did g c = record {
  between = c.put_if_any-put.new.pass;
  put = c.put_if_any-put.ensures.did;
  turn = record { old = c.deref_mut-2.result.now; new = c.turn-answer.new.self; tied = c.turn-answer.ensures.tied.0; now = c.turn-answer.ensures.tied.1; did = c.turn-answer.ensures.did };
}
