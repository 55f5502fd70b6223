use Rattle.std.proofs.Common.{◌==◌, ◌∙◌, sym, rules}
use Rattle.ro_text.proofs.Cuts.{cut_some, cut_none}
use Rattle.ro_text.proofs.parts.cut_at.Goals as goal

pub returns-clause-some : goal.returns-clause-some
returns-clause-some c =
    cut_some (λ b. b == c.args.separator) c.args.bytes.now c.in_ok-place.place (sym c.place_of.ensures.place ∙ c.in_ok-place.was)

pub returns-in_err-place-clause-none : goal.returns-in_err-place-clause-none
returns-in_err-place-clause-none c =
    let whole = cut_none (λ b. b == c.args.separator) c.args.bytes.now (sym c.place_of.ensures.place ∙ c.in_err-place.was) in
    search (whole, rules)
