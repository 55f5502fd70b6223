-- The verdict from one view on, and what it says.
use Rattle.std.proofs.Common.{refl}
use Rattle.std.proofs.lemmas.Bool.{true≢false}
use Rattle.std.proofs.lemmas.Option.{slice_get_read}
use Rattle.ro_vote.proofs.Answered.{won-here, won-later, split-left, split-says, won-not-split, won-says}
use Rattle.ro_vote.proofs.votes.verdict.Goals as goal

pub returns-in-Some-clause-verdict : goal.returns-in-Some-clause-verdict
returns-in-Some-clause-verdict c =
    won-here _ _ _ _ c.loop-number.invariant (slice_get_read _ _ _ _ refl c.loop-number-test.true c.index-views-number.is) c.in-Some.ensures

pub returns-in-Some-clause-split : goal.returns-in-Some-clause-split
returns-in-Some-clause-split c =
    let won = won-here _ _ _ _ c.loop-number.invariant (slice_get_read _ _ _ _ refl c.loop-number-test.true c.index-views-number.is) c.in-Some.ensures in
    ((λ e. absurd (true≢false e)), λ none. absurd (won-not-split _ _ _ won none))

pub returns-in-Some-clause-majority : goal.returns-in-Some-clause-majority
returns-in-Some-clause-majority c =
    won-says _ _ _ (won-here _ _ _ _ c.loop-number.invariant (slice_get_read _ _ _ _ refl c.loop-number-test.true c.index-views-number.is) c.in-Some.ensures)

pub loop-number-preserved : goal.loop-number-preserved
loop-number-preserved c =
    won-later _ _ _ c.loop-number.invariant (slice_get_read _ _ _ _ refl c.loop-number-test.true c.index-views-number.is) c.in_default.ensures

pub returns-clause-split : goal.returns-clause-split
returns-clause-split c = ((λ e. split-says _ (split-left _ _ c.loop-number.invariant c.loop-number-test.false)), λ none. refl)
