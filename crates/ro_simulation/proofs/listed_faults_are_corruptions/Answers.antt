-- They are lemmas.
use Rattle.ro_legal.specs.Core.{opening_core}
use Rattle.ro_legal.specs.Legal.{replay}
use Rattle.ro_legal.proofs.Ordered.{ordered}
use Rattle.ro_simulation.proofs.Corruptions.{comes-possible, comes-legal, journal-comes, comes-core}
use Rattle.ro_simulation.proofs.Listed.{put-given, part-given, listed-apart}
use Rattle.ro_simulation.proofs.listed_faults_are_corruptions.Goals as goal

pub returns-clause-put : goal.returns-clause-put
returns-clause-put c = λ job journal lease count hit legal may. let o = ordered job journal legal in put-given job (replay job journal) o.backed o.sound lease count hit may

pub returns-clause-part : goal.returns-clause-part
returns-clause-part c = λ job journal lease count hit legal may. let o = ordered job journal legal in part-given job (replay job journal) o.backed o.sound lease count hit may

pub returns-clause-same_journal : goal.returns-clause-same_journal
returns-clause-same_journal c = λ journal. journal-comes journal

pub returns-clause-same_core : goal.returns-clause-same_core
returns-clause-same_core c = λ job journal. comes-core job (opening_core job) journal

pub returns-clause-possible : goal.returns-clause-possible
returns-clause-possible c = λ job journal. (comes-possible job (opening_core job) journal, comes-legal job (opening_core job) journal)

pub returns-clause-apart : goal.returns-clause-apart
returns-clause-apart c = λ job journal apart. listed-apart job journal apart
