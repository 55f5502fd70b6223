-- A third loser.
use Rattle.std.specs.Option.{option_map}
use Rattle.std.proofs.Common.{refl, sym, ap, ◌∙◌}
use Rattle.std.proofs.lemmas.Bool.{not-true}
use Rattle.std.proofs.lemmas.Option.{slice_get_read}
use Rattle.ro_journal.specs.Losers.{numbers}
use Rattle.ro_vote.proofs.Answered.{losers-three}
use Rattle.ro_vote.proofs.votes.losers.Goals as goal

pub returns-in_err-lost : goal.returns-in_err-lost
returns-in_err-lost c =
    ap (option_map numbers) c.from_residual.ensures
    ∙ losers-three _ _ _ _ c.loop-number.lost c.loop-number.invariant (slice_get_read _ _ _ _ refl c.loop-number-test.true c.index-views-number.is) (not-true _ (sym c.differs.ensures ∙ c.if-differs.true)) (c.in_err-lost.ensures.full.0 refl) c.requires.few
