use Rattle.std.proofs.Common.{◌&&◌, not, sym, ap, ◌∙◌}
use Rattle.ro_legal.specs.Core.{is_parked}
use Rattle.ro_coop_core.specs.Runs.{fields_of, state_of}
use Rattle.ro_coop_core.proofs.Tests.{awake-home}
use Rattle.ro_coop_core.proofs.cores.Core.is_lendable.Goals as goal

pub returns-then-is_awake : goal.returns-then-is_awake
returns-then-is_awake c =
    ap not (c.is_parked.ensures (awake-home (fields_of c.args.self.now) c.requires.holds c.args.replica c.args.thread (sym c.if-is_awake.ensures)))
    ∙ ap (λ awake. awake && not (is_parked (state_of c.args.self.now) c.args.replica c.args.thread)) c.if-is_awake.ensures

pub returns-else-is_awake : goal.returns-else-is_awake
returns-else-is_awake c = c.if-is_awake.false ∙ ap (λ awake. awake && not (is_parked (state_of c.args.self.now) c.args.replica c.args.thread)) c.if-is_awake.ensures
