use Rattle.std.proofs.Common.{◌≡◌, ◌↔◌, Some, sym, subst}
use Rattle.ro_legal.specs.Legal.{EndsFree}
use Rattle.ro_legal.specs.Modes.{Mode, replay}
use Rattle.ro_coop_core.specs.Runs.{job_of, fields_of}
use Rattle.ro_audit.proofs.together.CoreAuditCore.free_end.Goals as goal

-- src/together.rt:73:5
pub returns : goal.returns
returns c how =
    subst (λ (m : Mode). (c.free_end.result ≡ Some how) ↔ EndsFree (job_of c.args.self.now) (replay m (job_of c.args.self.now) (fields_of c.args.self.now).journal) how) (sym c.requires.holds.1)
    (c.free_end.ensures how)
