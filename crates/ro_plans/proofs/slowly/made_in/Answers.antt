use Rattle.std.proofs.Common.{◌≡◌, sym, ◌∙◌, arith}
use Rattle.std.specs.List.{sum_by}
use Rattle.std.proofs.lemmas.Grind.{common_steps}
use Rattle.std.proofs.lemmas.List.Sums.{sum_by_more_le}
use Rattle.ro_journal.specs.Leases.{lease_to}
use Rattle.ro_journal.specs.declared.Entry.TheVariants.{Take}
use Rattle.ro_plans.specs.Walks.{made_by}
use Rattle.ro_plans.proofs.Knowing.{taken-sum}
use Rattle.ro_plans.proofs.slowly.made_in.Goals as goal

pub overflow_add-made : goal.overflow_add-made
overflow_add-made c =
    let within = sum_by_more_le (λ entry. made_by entry c.args.replica c.args.thread) c.args.entries.now c.loop-entry.entry-index (Take (lease_to 0 0 0)) c.loop-entry-test.true in
    omega (arith, within, taken-sum c.args.entries.now c.args.replica c.args.thread, c.requires, c.loop-entry.invariant, c.made_by-made.ensures)

pub returns : goal.returns
returns c =
    let total : c.loop-entry.made ≡ sum_by (λ entry. made_by entry c.args.replica c.args.thread) c.args.entries.now = grind (arith, common_steps) in
    total ∙ sym (taken-sum c.args.entries.now c.args.replica c.args.thread)
