use Rattle.std.proofs.Common.{◌≡◌, ◌↔◌, Some, sym, subst}
use Rattle.ro_journal.specs.declared.How.{How}
use Rattle.ro_legal.specs.Legal.{EndsFree}
use Rattle.ro_legal.specs.Modes.{Mode, replay}
use Rattle.ro_core.specs.Runs.{fields_of, job_of}
use Rattle.ro_audit.proofs.voted.CoreAuditCore.free_end.Goals as goal

pub returns : goal.returns
returns c =
    let job = job_of c.args.self.now in
    subst (λ (m : Mode). (how : How) → (c.free_end.result ≡ Some how) ↔ EndsFree job (replay m job (fields_of c.args.self.now).journal) how) (sym c.requires.holds.1) c.free_end.ensures
