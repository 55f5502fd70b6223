use Rattle.std.proofs.lemmas.Option.{slice_get-get_or}
use Rattle.std.proofs.Common.{sym, ◌∙◌}
use Rattle.std.specs.Prelude.{slice_index_or}
use Rattle.ro_races.proofs.Rows.{blank, known-at, known-nowhere, zero-entry}
use Rattle.ro_races.proofs.sources.known.Goals as goal

pub returns-in-Some : goal.returns-in-Some
returns-in-Some c u =
    let there = slice_get-get_or c.args.rows.now c.in-Some.place blank c.in-Some.ensures.there in
    sym (known-at c.args.rows.now c.in-Some.place (slice_index_or c.args.rows.now c.in-Some.place blank) c.args.source u there (c.in-Some.ensures.place.0 _ there) c.in-Some.ensures.place.1)

pub returns-in-None : goal.returns-in-None
returns-in-None c u = zero-entry u ∙ sym (known-nowhere c.args.rows.now c.args.source u c.in-None.ensures.place)
