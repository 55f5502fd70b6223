use Rattle.std.proofs.Common.{ap, ◌∙◌}
use Rattle.ro_legal.specs.Core.{Job}
use Rattle.ro_legal.specs.Legal.{output_of}
use Rattle.ro_core.specs.Runs.{fields_of, job_of}
use Rattle.ro_core.proofs.Takes.{take-goes-there, take-output}
use Rattle.ro_core.proofs.cores.Core.lend.Goals as goal

pub pages_for-requires-clause-seat : goal.pages_for-requires-clause-seat
pages_for-requires-clause-seat c = take-goes-there (fields_of c.args.self.now) c.requires.holds c.args.lease c.requires.allowed

pub returns-in-None-clause-output : goal.returns-in-None-clause-output
returns-in-None-clause-output c =
    let job = job_of c.args.self.now in
    ap (λ (j : Job). output_of j c.lend_whole.new.self.journal.items) c.lend_whole.ensures.job ∙ ap (output_of job) c.lend_whole.ensures.journal ∙ take-output job c.args.self.now.journal.items c.args.lease

pub returns-in-Some-clause-output : goal.returns-in-Some-clause-output
returns-in-Some-clause-output c =
    let job = job_of c.args.self.now in
    ap (λ (j : Job). output_of j c.lend_part.new.self.journal.items) c.lend_part.ensures.job ∙ ap (output_of job) c.lend_part.ensures.journal ∙ take-output job c.args.self.now.journal.items c.args.lease
