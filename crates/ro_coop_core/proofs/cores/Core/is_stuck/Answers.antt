use Rattle.std.proofs.Common.{true, ap, ◌∙◌}
use Rattle.std.specs.Prelude.{is_none}
use Rattle.ro_legal.proofs.Lowest.{stuck-by-first, none-by-some}
use Rattle.ro_coop_core.specs.Runs.{job_of, state_of}
use Rattle.ro_coop_core.proofs.cores.Core.is_stuck.Goals as goal

pub returns-then-is_idle : goal.returns-then-is_idle
returns-then-is_idle c =
    stuck-by-first (job_of c.args.self.now) (state_of c.args.self.now) true c.is_none.result c.if-is_idle.ensures (none-by-some c.first_action.result c.is_none.result c.is_none.ensures ∙ ap is_none c.first_action.ensures)
