use Rattle.ro_exec.proofs.quick.quick_step.Goals as goal

pub load_at-word-requires-clause-kept : goal.load_at-word-requires-clause-kept
load_at-word-requires-clause-kept g c = c.goes_along.ensures.kept c.args.pc.now (c.goes_along.ensures.inside c.if-not-goes_along.false)
