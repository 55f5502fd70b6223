use Rattle.ro_plans.specs.Walks.{mode_of}
use Rattle.ro_plans.proofs.Told.{told-some, told-none}
use Rattle.ro_plans.proofs.walk.Walk.count.Goals as goal

pub returns-in-Some-clause-adds : goal.returns-in-Some-clause-adds
returns-in-Some-clause-adds c = told-some (mode_of c.args.self.now) c.args.journal.now c.args.place c.steps.result c.in-Some.stretch c.in-Some.is c.steps.ensures.adds

pub returns-in-None-clause-adds : goal.returns-in-None-clause-adds
returns-in-None-clause-adds c = told-none (mode_of c.args.self.now) c.args.journal.now c.args.place c.steps.result c.in-None.is c.steps.ensures.adds
