use Rattle.std.proofs.Common.{ap, sym, ◌∙◌, arith}
use Rattle.std.proofs.lemmas.Option.{get_or_from_slice_get, slice_get_within}
use Rattle.ro_races.specs.Seen.{is_source}
use Rattle.ro_races.proofs.Rows.{blank, none-more}
use Rattle.ro_races.proofs.sources.place_of.Goals as goal

pub loop-place-init : goal.loop-place-init
loop-place-init c k row less = absurd (omega arith)

pub loop-place-preserved : goal.loop-place-preserved
loop-place-preserved c = none-more c.args.rows.now c.args.source c.loop-place.place c.loop-place.invariant (sym c.is.ensures ∙ c.if-is.false)

pub returns-then-is-clause-place : goal.returns-then-is-clause-place
returns-then-is-clause-place c = (
  λ row h. ap (λ r. is_source r.source c.args.source) (sym (get_or_from_slice_get c.args.rows.now c.loop-place.place row blank h)) ∙ (sym c.is.ensures ∙ c.if-is.true),
  c.loop-place.invariant,
)

pub returns-clause-place : goal.returns-clause-place
returns-clause-place c k row h = c.loop-place.invariant k row (let less = slice_get_within c.args.rows.now k row h in omega arith) h
