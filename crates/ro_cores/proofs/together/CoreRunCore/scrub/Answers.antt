use Rattle.ro_coop_core.specs.Runs.{job_of}
use Rattle.ro_cores.proofs.Unscrubbed.{no-scrub}
use Rattle.ro_cores.proofs.together.CoreRunCore.scrub.Goals as goal

pub unreachable-requires : goal.unreachable-requires
unreachable-requires c = no-scrub (job_of c.args.self.now) _ c.requires.holds.0.calm.unscrubbed c.requires.next
