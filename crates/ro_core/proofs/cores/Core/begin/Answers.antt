use Rattle.std.proofs.Common.{refl, sym, ap, ◌∙◌, subst}
use Rattle.ro_kernel.specs.Kernel.{Setup}
use Rattle.ro_core.specs.Opening.{AreFirst}
use Rattle.ro_core.proofs.Begins.{opening-holds}
use Rattle.ro_core.proofs.cores.Core.begin.Goals as goal

pub returns-in-Ok-clause-holds : goal.returns-in-Ok-clause-holds
returns-in-Ok-clause-holds c =
    let o = c.in-Ok.ensures in
    opening-holds _ c.requires.settings o.journal (subst (λ fs. AreFirst c.args.image fs c.args.settings.watchdog c.in-Ok.opening.seats.homes.items) (sym o.faults) o.first) o.count c.new-in-Ok.ensures.items
    (record { lent = o.lent; lent_count = λ lends. o.lent_count _ refl lends; wishes = o.wishes; wish_count = λ lends. o.wish_count _ refl lends; lanes = c.new-in-Ok-2.ensures.items })
    (o.setup ∙ ap (λ (s : Setup). record { ranges = c.args.image.ranges; heap = c.args.image.heap; input = s.input }) (sym o.setup)) o.kernel refl refl refl refl refl (c.new-in-Ok-3.ensures.waits, c.new-in-Ok-3.ensures.votes) refl refl refl refl o.views o.none o.room

pub returns-in-Ok-clause-opens : goal.returns-in-Ok-clause-opens
returns-in-Ok-clause-opens c =
    let o = c.in-Ok.ensures in
    record {
      job_is = ap (λ fs. record { program = record { image = c.args.image; input = c.in-Ok.opening.kernel.setup.input }; faults = fs; settings = c.args.settings }) o.faults
          ∙ ap (λ (s : Setup). record { program = record { image = c.args.image; input = s.input }; faults = c.args.faults.now; settings = c.args.settings }) o.setup;
      journal_is = o.journal;
      failed_is = refl;
      held_is = refl;
      failures_is = refl;
      sure_is = refl;
    }
