use Rattle.std.proofs.Common.{◌≡◌, ◌<◌, ◌^◌, length, take}
use Rattle.std.specs.List.{sum_by}
use Rattle.ro_journal.specs.Counts.{votes_in, copies_in, struck_in}
use Rattle.ro_journal.specs.Plan.{entry_plan}
use Rattle.ro_journal.proofs.counts.Totals.of.Given as goal

-- what was counted so far is that of the entries so far
abbrev pub invariant-loop-entry : goal.invariant-loop-entry
invariant-loop-entry l = record {
  votes : l.totals.votes ≡ votes_in (take l.entry-index l.journal);
  copies : l.totals.copies ≡ copies_in (take l.entry-index l.journal);
  struck : l.totals.struck ≡ struck_in (take l.entry-index l.journal);
  steps : sum_by (λ entry. length (entry_plan entry)) l.journal < 2 ^ 64 → l.totals.steps ≡ sum_by (λ entry. length (entry_plan entry)) (take l.entry-index l.journal);
}
