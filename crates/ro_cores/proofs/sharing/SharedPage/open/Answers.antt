use Rattle.std.proofs.Common.{List, take, drop, sym, ap, ◌∙◌, subst}
use Rattle.ro_lockpage.specs.Pages.{PassOf}
use Rattle.ro_cores.specs.Sharing.{AreSpare}
use Rattle.ro_cores.proofs.Passes.{first-fresh, others-spare}
use Rattle.ro_cores.proofs.sharing.SharedPage.open.Goals as goal

pub returns-clause-passes : goal.returns-clause-passes
returns-clause-passes c = c.in_ok-spare.ensures.items ∙ (ap (take c.args.drivers) c.in_ok-page.ensures.2 ∙ first-fresh c.in_ok-page.page.name c.args.drivers c.requires)

pub returns-clause-spare : goal.returns-clause-spare
returns-clause-spare c =
    subst (λ (ps : List PassOf). AreSpare c.in_ok-page.page.name ps c.args.drivers) (sym (c.in_ok-spare.ensures.tail ∙ ap (drop c.args.drivers) c.in_ok-page.ensures.2))
    (others-spare c.in_ok-page.page.name c.args.drivers c.requires)
