use Rattle.std.proofs.Common.{◌∙◌, refl}
use Rattle.ro_coop_core.specs.Runs.{job_of, fields_of}
use Rattle.ro_coop.proofs.Steps.{steps-are-first}
use Rattle.ro_audit.proofs.together.CoreAuditCore.steps.Goals as goal

-- src/together.rt:85:5
pub returns : goal.returns
returns c = c.steps.ensures c.requires.holds.0 ∙ steps-are-first (job_of c.args.self.now) refl (fields_of c.args.self.now).journal c.requires.holds.0.legal
