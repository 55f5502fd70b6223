use Rattle.std.proofs.Common.{true, ap, ◌∙◌}
use Rattle.std.specs.Prelude.{is_none}
use Rattle.ro_legal.proofs.Lowest.{none-by-some}
use Rattle.ro_core.specs.Runs.{state_of}
use Rattle.ro_core.proofs.Asked.{scrub-by-lending}
use Rattle.ro_core.proofs.cores.Core.may_scrub.Goals as goal

pub returns-then-is_idle : goal.returns-then-is_idle
returns-then-is_idle c =
    scrub-by-lending (state_of c.args.self.now) true c.is_none.result c.if-is_idle.ensures (none-by-some c.lowest_to_lend.result c.is_none.result c.is_none.ensures ∙ ap is_none c.lowest_to_lend.ensures)
