use Rattle.std.proofs.Common.{ap}
use Rattle.ro_legal.specs.Jobs.{job_of}
use Rattle.ro_top.proofs.Finishing.{none_run}
use Rattle.ro_top.proofs.running.run_together.Goals as goal

pub returns-in-Err-clause-run : goal.returns-in-Err-clause-run
returns-in-Err-clause-run g c =
    let e = c.nothing.ensures in
    none_run (job_of c.args.job.image c.args.job.input.items c.args.job.faults.items c.args.job.settings) _ c.requires.can_run c.requires.fit e.journal e.answer e.bytes (ap g.K.Sink.held e.out) (ap g.K.Sink.failures e.out)
