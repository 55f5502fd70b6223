use Rattle.std.proofs.Common.{◌+◌, arith}
use Rattle.ro_journal.specs.Leases.{lease_to}
use Rattle.ro_journal.specs.declared.Entry.TheVariants.{Take}
use Rattle.ro_plans.proofs.Knowing.{first-next, first-few}
use Rattle.ro_plans.proofs.slowly.made_first.Goals as goal

pub overflow_add-first : goal.overflow_add-first
overflow_add-first c =
    let next = first-next c.args.entries.now c.loop-place.place (Take (lease_to 0 0 0)) c.args.thread c.loop-place-test.true in
    let few = first-few c.args.entries.now (c.loop-place.place + 1) c.args.thread in
    omega (arith, next, few, c.requires, c.loop-place.invariant, c.first_by-first.ensures)

pub loop-place-preserved : goal.loop-place-preserved
loop-place-preserved c =
    let next = first-next c.args.entries.now c.loop-place.place (Take (lease_to 0 0 0)) c.args.thread c.loop-place-test.true in
    omega (arith, next, c.loop-place.invariant, c.first_by-first.ensures)
