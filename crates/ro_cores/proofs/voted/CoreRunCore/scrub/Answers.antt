use Rattle.std.proofs.Common.{sym, ap, ◌∙◌}
use Rattle.ro_legal.specs.Action.{next_action}
use Rattle.ro_legal.specs.Modes.{Mode, replay}
use Rattle.ro_legal.proofs.Nexts.{scrub_next}
use Rattle.ro_core.specs.Runs.{fields_of, job_of, state_of}
use Rattle.ro_cores.proofs.voted.CoreRunCore.scrub.Goals as goal

pub scrub-requires-clause-may : goal.scrub-requires-clause-may
scrub-requires-clause-may c =
    let job = job_of c.args.self.now in
    scrub_next job (state_of c.args.self.now)
    (ap (λ (m : Mode). next_action job (replay m job (fields_of c.args.self.now).journal)) (sym c.requires.holds.1) ∙ c.requires.next)
