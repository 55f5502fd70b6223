use Rattle.std.proofs.Common.{ℕ, Some, get_or, sym, ap, ◌∙◌, arith}
use Rattle.std.proofs.lemmas.Option.{slice_get-get_or}
use Rattle.ro_core.specs.declared.wishing.Wish.{Wish}
use Rattle.ro_core.specs.Wishing.{wish_place}
use Rattle.ro_core.specs.declared.wishing.Wish.{Wish}
use Rattle.ro_core.specs.Wishing.{wish_place}
use Rattle.ro_core.specs.Runs.{fields_of}
use Rattle.ro_core.proofs.Going.{going-few, going-made, wish-within}
use Rattle.ro_core.proofs.cores.Core.wish.Goals as goal

pub place_of-requires-clause-replica : goal.place_of-requires-clause-replica
place_of-requires-clause-replica c = going-few (fields_of c.args.self.now) c.requires.holds c.args.replica c.args.thread c.requires.seat

pub place_of-requires-clause-thread : goal.place_of-requires-clause-thread
place_of-requires-clause-thread c = going-made (fields_of c.args.self.now) c.requires.holds c.args.replica c.args.thread c.requires.seat

pub index-requires : goal.index-requires
index-requires c =
    let within = wish-within (fields_of c.args.self.now) c.requires.holds c.args.replica c.args.thread c.requires.seat c.requires.lends in
    omega (arith, within, c.place_of.ensures, c.args.self.now.wishes.ok.0)

pub returns : goal.returns
returns c =
    let within = wish-within (fields_of c.args.self.now) c.requires.holds c.args.replica c.args.thread c.requires.seat c.requires.lends in
    slice_get-get_or c.args.self.now.wishes.items (wish_place c.args.replica c.args.thread) c.index.result.now within
    ∙ ap (λ (n : ℕ). Some (get_or c.args.self.now.wishes.items n c.index.result.now)) (sym c.place_of.ensures) ∙ ap (λ (w : Wish). Some w) (sym c.index.ensures)
