use Rattle.std.proofs.Common.{sym, subst}
use Rattle.ro_legal.specs.Modes.{Mode, InMode}
use Rattle.ro_core.specs.Seen as votes
use Rattle.ro_coop_core.specs.Seen as together
use Rattle.ro_core.specs.Runs.{fields_of, job_of}
use Rattle.ro_cores.proofs.voted.CoreRunCore.finish.Goals as goal

pub returns-clause-views : goal.returns-clause-views
returns-clause-views c =
    subst (λ (m : Mode). InMode m (votes.KeepsViews (job_of c.args.self) (fields_of c.args.self).journal c.finish-image.result.views.items) (together.KeepsViews (job_of c.args.self) (fields_of c.args.self).journal c.finish-image.result.views.items)) (sym c.requires.holds.1)
    (c.finish-image.ensures.views c.requires.holds.0)
