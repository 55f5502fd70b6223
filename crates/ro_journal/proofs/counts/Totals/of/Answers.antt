-- What is counted so far is within the whole.
use Rattle.std.proofs.Common.{◌≡◌, ◌<◌, ◌^◌, ℕ, length, sym, subst, ◌∙◌, arith}
use Rattle.std.proofs.lemmas.Grind.{common_steps}
use Rattle.std.specs.List.{sum_by}
use Rattle.std.proofs.lemmas.List.Sums.{sum_by_more_le}
use Rattle.ro_journal.specs.declared.Entry.TheVariants.{Take}
use Rattle.ro_journal.specs.Plan.{entry_plan}
use Rattle.ro_journal.specs.Counts.{copies_of}
use Rattle.ro_journal.proofs.CopyCounts.{few_copies}
use Rattle.ro_journal.proofs.StepCounts.{length-plan_of}
use Rattle.ro_journal.proofs.counts.Totals.of.Goals as goal

pub add-requires-clause-copies : goal.add-requires-clause-copies
add-requires-clause-copies c =
    let within = sum_by_more_le copies_of c.args.journal.now c.loop-entry.entry-index (Take (record { driver = 0; replica = 0; thread = 0 })) c.loop-entry-test.true in
    omega (arith, within, few_copies c.args.journal.now, c.iter-entries.ensures.bound, c.loop-entry.invariant.copies)

-- the steps of all entries are a number of 64 bits, then so are those of the first ones
pub loop-entry-preserved : goal.loop-entry-preserved
loop-entry-preserved c = record {
  votes = grind (arith, common_steps);
  copies = grind (arith, common_steps);
  struck = grind (arith, common_steps);
  steps = λ fits.
      let within = sum_by_more_le (λ entry. length (entry_plan entry)) c.args.journal.now c.loop-entry.entry-index (Take (record { driver = 0; replica = 0; thread = 0 })) c.loop-entry-test.true in
      let before = c.loop-entry.invariant.steps fits in
      let added = c.add.ensures.steps (omega (arith, within, fits, before)) in
      grind (arith, common_steps);
}

pub returns-clause-steps : goal.returns-clause-steps
returns-clause-steps c fits =
    let P : ℕ → Type 0 = λ n. n < 2 ^ 64 in
    let all : sum_by (λ entry. length (entry_plan entry)) c.args.journal.now < 2 ^ 64 = subst P (length-plan_of c.args.journal.now) fits in
    let counted = c.loop-entry.invariant.steps all in
    let total : c.loop-entry.totals.steps ≡ sum_by (λ entry. length (entry_plan entry)) c.args.journal.now = grind (arith, common_steps) in
    total ∙ sym (length-plan_of c.args.journal.now)
