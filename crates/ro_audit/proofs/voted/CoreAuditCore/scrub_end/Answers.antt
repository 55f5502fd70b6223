use Rattle.std.proofs.Common.{◌≡◌, ◌↔◌, Some, sym, subst}
use Rattle.ro_journal.specs.declared.How.{How}
use Rattle.ro_legal.specs.Modes.{Mode, EndsScrub, replay}
use Rattle.ro_core.specs.Runs.{fields_of, job_of}
use Rattle.ro_audit.proofs.voted.CoreAuditCore.scrub_end.Goals as goal

pub returns : goal.returns
returns c =
    let job = job_of c.args.self.now in
    subst (λ (m : Mode). (how : How) → (c.scrub_end.result ≡ Some how) ↔ EndsScrub m (replay m job (fields_of c.args.self.now).journal) how) (sym c.requires.holds.1) c.scrub_end.ensures
