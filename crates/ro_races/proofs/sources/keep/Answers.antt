use Rattle.std.proofs.Common.{rules, sym, refl, ◌≡◌, ◌<◌, subst, List, length, Some, None, ◌++◌, ◌∷◌, []}
use Rattle.std.proofs.lemmas.Option.{slice_get_read}
use Rattle.ro_races.specs.declared.sources.Row.{Row}
use Rattle.ro_races.specs.Seen.{known_by, IsPlace, Keeps}
use Rattle.ro_races.proofs.Rows.{keeps-at, keeps-new}
use Rattle.ro_races.proofs.sources.keep.Goals as goal

pub returns-in-Some : goal.returns-in-Some
returns-in-Some c =
    let within : c.in-Some.place < length c.args.rows.now.items = subst (λ (xs : List Row). c.in-Some.place < length xs) c.as_slice.ensures.value c.in-Some.ensures.there in
    let place : IsPlace c.args.rows.now.items c.args.source (Some c.in-Some.place) = subst (λ (xs : List Row). IsPlace xs c.args.source (Some c.in-Some.place)) c.as_slice.ensures.value c.in-Some.ensures.place in
    let there = slice_get_read c.args.rows.now.items (length c.args.rows.now.items) c.in-Some.place c.index_mut.result.now refl within c.index_mut.ensures.value in
    keeps-at c.args.rows.now.items c.in-Some.place c.index_mut.result.now (record { source = c.index_mut.result.now.source; clock = c.args.past.now }) c.args.source c.args.past.now there refl refl place

pub returns-in_ok-map_err-in-None : goal.returns-in_ok-map_err-in-None
returns-in_ok-map_err-in-None c =
    let more : c.push.new.self.items ≡ c.args.rows.now.items ++ record { source = c.args.source; clock = c.args.past.now } ∷ [] = search rules in
    let place : IsPlace c.args.rows.now.items c.args.source None = subst (λ (xs : List Row). IsPlace xs c.args.source None) c.as_slice.ensures.value c.in-None.ensures.place in
    subst (λ (xs : List Row). Keeps (known_by c.args.rows.now.items) c.args.source c.args.past.now (known_by xs)) (sym more)
    (keeps-new c.args.rows.now.items (record { source = c.args.source; clock = c.args.past.now }) c.args.source c.args.past.now refl refl place)
