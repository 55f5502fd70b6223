use Rattle.std.proofs.Common.{rules, refl, ap, ◌∙◌, ◌≡◌, subst, List, None, replicate, ◌++◌, ◌∷◌, []}
use Rattle.ro_races.specs.declared.sources.Source.TheVariants.{Thread}
use Rattle.ro_races.specs.declared.sources.Row.{Row}
use Rattle.ro_races.specs.Seen.{known_by, IsPlace}
use Rattle.ro_races.proofs.Rows.{known-new, zero-entry}
use Rattle.ro_races.proofs.sources.own_place.Goals as goal

pub returns-clause-same : goal.returns-clause-same
returns-clause-same c source u =
    let row : Row = record { source = Thread c.args.thread; clock = record { seen = replicate 16 0 } } in
    let more : c.push.new.self.items ≡ c.args.rows.now.items ++ row ∷ [] = search rules in
    let place : IsPlace c.args.rows.now.items (Thread c.args.thread) None = subst (λ (xs : List Row). IsPlace xs (Thread c.args.thread) None) c.as_slice.ensures.value c.in_default.ensures.place in
    ap (λ (xs : List Row). known_by xs source u) more ∙ known-new c.args.rows.now.items row (Thread c.args.thread) refl zero-entry place source u
