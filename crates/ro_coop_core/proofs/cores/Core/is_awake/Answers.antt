use Rattle.std.proofs.Common.{◌&&◌, Bool, sym, ap, ◌∙◌}
use Rattle.ro_kernel.specs.Kernel.{lives_on}
use Rattle.ro_coop_core.specs.Runs.{fields_of}
use Rattle.ro_coop_core.proofs.Tests.{awake-is, seat-at}
use Rattle.ro_coop_core.proofs.cores.Core.is_awake.Goals as goal

pub returns-then-is_unstopped : goal.returns-then-is_unstopped
returns-then-is_unstopped c =
    let f = fields_of c.args.self.now in
    let there = seat-at f c.requires.holds c.args.replica c.index.result.now c.requires.replica c.index.ensures in
    c.lives_on.ensures ∙ ap (λ (b : Bool). b && lives_on c.args.self.now.kernel.kernel c.args.thread) c.if-is_unstopped.ensures
    ∙ awake-is f c.requires.holds c.args.replica c.args.thread c.index.result.now there

pub returns-else-is_unstopped : goal.returns-else-is_unstopped
returns-else-is_unstopped c =
    let f = fields_of c.args.self.now in
    let there = seat-at f c.requires.holds c.args.replica c.index.result.now c.requires.replica c.index.ensures in
    c.is_unstopped.ensures ∙ sym c.if-is_unstopped.ensures ∙ ap (λ (b : Bool). b && lives_on c.args.self.now.kernel.kernel c.args.thread) c.if-is_unstopped.ensures
    ∙ awake-is f c.requires.holds c.args.replica c.args.thread c.index.result.now there
