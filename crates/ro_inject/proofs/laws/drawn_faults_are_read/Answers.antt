use Rattle.ro_inject.specs.Draws.{generator_of}
use Rattle.ro_inject.proofs.Within.{faults-within}
use Rattle.ro_inject.proofs.laws.drawn_faults_are_read.Goals as goal

pub returns : goal.returns
returns c = λ ranges only replicas seed count are three fits. faults-within ranges are only replicas three fits count (generator_of seed)
