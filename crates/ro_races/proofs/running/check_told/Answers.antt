use Rattle.std.proofs.Common.{Option, subst}
use Rattle.ro_machine.proofs.Stepping.{on-ok, if-err}
use Rattle.ro_plans.specs.declared.walk.Stretch.{Stretch}
use Rattle.ro_plans.specs.Walks.{stretch_steps}
use Rattle.ro_races.specs.Follows.{StandsAt}
use Rattle.ro_races.proofs.running.check_told.Goals as goal

pub returns-in-Some-clause-follows : goal.returns-in-Some-clause-follows
returns-in-Some-clause-follows c =
    on-ok c.check_steps.result _ _
    (λ g program threads f s. g program threads f (subst (λ (told : Option Stretch). StandsAt threads c.args.checker.now.steps (stretch_steps told)) c.in-Some.is s))
    c.check_steps.ensures.follows

pub returns-in-Some-clause-lacks : goal.returns-in-Some-clause-lacks
returns-in-Some-clause-lacks c =
    if-err c.check_steps.result _ _
    (λ e g program threads f s. g program threads f (subst (λ (told : Option Stretch). StandsAt threads c.args.checker.now.steps (stretch_steps told)) c.in-Some.is s))
    c.check_steps.ensures.lacks
