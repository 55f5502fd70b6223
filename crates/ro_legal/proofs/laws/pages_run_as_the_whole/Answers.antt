use Rattle.ro_legal.proofs.PageRuns.{pages-run}
use Rattle.ro_legal.proofs.laws.pages_run_as_the_whole.Goals as goal

pub returns : goal.returns
returns c = λ layout watchdog count thread pages replica ran e. pages-run layout watchdog pages count thread replica ran e
