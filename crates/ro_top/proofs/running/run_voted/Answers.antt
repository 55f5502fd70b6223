use Rattle.std.proofs.Common.{ap, ◌∙◌}
use Rattle.ro_legal.specs.Jobs.{job_of}
use Rattle.ro_top.proofs.Finishing.{none_run, of_its_job, of_its_items}
use Rattle.ro_top.proofs.running.run_voted.Goals as goal

pub returns-in-Err-clause-run : goal.returns-in-Err-clause-run
returns-in-Err-clause-run g c =
    let e = c.nothing.ensures in
    none_run (job_of c.args.job.image c.args.job.input.items c.args.job.faults.items c.args.job.settings) _ c.requires.can_run c.requires.fit e.journal e.answer e.bytes (ap g.K.Sink.held e.out) (ap g.K.Sink.failures e.out)

pub returns-clause-run : goal.returns-clause-run
returns-clause-run g c =
    of_its_job _ _ _ (c.in-Ok.ensures.opens.job_is ∙ of_its_items c.args.job.image c.args.job.settings _ _ _ _ c.as_slice.ensures.value c.as_slice-2.ensures.value) c.run_core-image.ensures.run
