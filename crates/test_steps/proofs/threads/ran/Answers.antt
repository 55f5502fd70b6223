use Rattle.test_steps.proofs.threads.ran.Goals as goal

pub run-requires-clause-learnt : goal.run-requires-clause-learnt
run-requires-clause-learnt g c = c.nothing-learnt.ensures _ _ _
