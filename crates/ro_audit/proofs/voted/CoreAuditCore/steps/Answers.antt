use Rattle.std.proofs.Common.{◌∙◌}
use Rattle.ro_core.specs.Runs.{fields_of, job_of}
use Rattle.ro_audit.proofs.Plans.{plan_steps}
use Rattle.ro_audit.proofs.voted.CoreAuditCore.steps.Goals as goal

pub returns : goal.returns
returns c = c.steps.ensures c.requires.holds.0 ∙ plan_steps (job_of c.args.self.now) (fields_of c.args.self.now).journal c.requires.holds.0.legal
