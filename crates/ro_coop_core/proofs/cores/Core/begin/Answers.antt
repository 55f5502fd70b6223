use Rattle.std.proofs.Common.{refl, sym, ap, ◌∙◌}
use Rattle.ro_kernel.specs.Kernel.{Setup}
use Rattle.ro_coop_core.proofs.Begins.{opening-holds}
use Rattle.ro_coop_core.proofs.cores.Core.begin.Goals as goal

pub returns-clause-holds : goal.returns-clause-holds
returns-clause-holds c =
    let o = c.in-Ok.ensures in
    opening-holds _ (record { in_range = c.requires.calm.in_range; unstruck = refl; unscrubbed = c.requires.calm.unscrubbed }) o.journal o.first o.count c.new-2.ensures.items
    (o.setup ∙ ap (λ (s : Setup). record { ranges = c.args.image.ranges; heap = c.args.image.heap; input = s.input }) (sym o.setup)) o.kernel c.takes_by_locks-cooperates.ensures refl refl refl (c.new-3.ensures.waits, c.new-3.ensures.votes) refl refl refl refl o.views o.room
