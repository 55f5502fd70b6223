-- They are lemmas.
use Rattle.ro_simulation.proofs.Corruptions.{writes-still}
use Rattle.ro_simulation.proofs.Voted.{copies-still, scrubs-still}
use Rattle.ro_simulation.proofs.Completes.{limit-still, complete-still}
use Rattle.ro_simulation.proofs.any_corruption.Goals as goal

pub returns-clause-writes : goal.returns-clause-writes
returns-clause-writes c = λ job moments free count possible apart. writes-still job free count moments possible apart

pub returns-clause-copies : goal.returns-clause-copies
returns-clause-copies c = λ job moments before rest thread count won lost did free possible apart is. copies-still job free moments apart possible before rest thread count won lost did is

pub returns-clause-scrubs : goal.returns-clause-scrubs
returns-clause-scrubs c = λ job moments before rest won lost free possible apart is. scrubs-still job free moments apart possible before rest won lost is

pub returns-clause-limit : goal.returns-clause-limit
returns-clause-limit c = λ job moments free possible apart steps next e. limit-still job free moments possible apart steps next e

pub returns-clause-ends : goal.returns-clause-ends
returns-clause-ends c = λ job moments free three count ends possible apart how e sinks. complete-still job free three count ends moments possible apart how e sinks
