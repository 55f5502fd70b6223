use Rattle.std.proofs.Common.{sym, ap, ◌∙◌}
use Rattle.std.specs.Prelude.{nat_lt}
use Rattle.ro_legal.specs.Action.{outwaits}
use Rattle.ro_core.specs.Runs.{state_of}
use Rattle.ro_core.proofs.cores.Core.outwaits.Goals as goal

pub returns-in-Some : goal.returns-in-Some
returns-in-Some c =
    let waits = c.requires.holds.waits_are.are in
    ap (λ n. nat_lt n c.waited-in-Some.result) (c.waited.ensures _ waits) ∙ ap (nat_lt _) (c.waited-in-Some.ensures _ waits) ∙ ap (outwaits (state_of c.args.self.now) c.args.thread) (sym c.in-Some.is)
