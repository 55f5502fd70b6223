-- Each part is a lemma.
use Rattle.ro_orders.proofs.Attained.{runs-attained, fault-at-front, runs-more}
use Rattle.ro_orders.proofs.first_steps_are_made.Goals as goal

pub returns-clause-by_some : goal.returns-clause-by_some
returns-clause-by_some c program chosen backed rows copies first h t =
    let a = runs-attained program chosen backed rows h t in (a.number, a.copy, a.there, a.all)

pub returns-clause-at_a_fault : goal.returns-clause-at_a_fault
returns-clause-at_a_fault c program chosen backed rows free lacks copies first f number t copy cpu there live fault =
    fault-at-front program chosen free lacks backed first f.machine f.goes_on copy (f.behind number copy there) t cpu live fault

pub returns-clause-with_more_pages : goal.returns-clause-with_more_pages
returns-clause-with_more_pages c program chosen backed more rows keeps copies first h = runs-more program chosen rows backed more (record { keeps = keeps }) h
