use Rattle.std.proofs.Common.{refl, ap, ◌∙◌}
use Rattle.ro_legal.specs.Core.{Job}
use Rattle.ro_legal.specs.Legal.{output_of}
use Rattle.ro_core.specs.Runs.{fields_of, job_of}
use Rattle.ro_core.proofs.Going.{lends-is, lent-alone}
use Rattle.ro_core.proofs.Takes.{take-output}
use Rattle.ro_core.proofs.cores.Core.take.Goals as goal

pub lend_whole-requires-clause-whole : goal.lend_whole-requires-clause-whole
lend_whole-requires-clause-whole c =
    let f = fields_of c.args.self.now in
    lent-alone f c.args.lease.replica c.args.lease.thread ((lends-is f c.lends_pages.result (c.lends_pages.ensures (job_of c.args.self.now) refl)).1 c.if-lends_pages.false)

pub returns-else-lends_pages-clause-output : goal.returns-else-lends_pages-clause-output
returns-else-lends_pages-clause-output c =
    let job = job_of c.args.self.now in
    ap (λ (j : Job). output_of j c.lend_whole.new.self.journal.items) c.lend_whole.ensures.job ∙ ap (output_of job) c.lend_whole.ensures.journal ∙ take-output job c.args.self.now.journal.items c.args.lease
