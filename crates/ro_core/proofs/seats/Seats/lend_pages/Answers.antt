use Rattle.std.proofs.Common.{Option, Some, sym, ap, ◌∙◌}
use Rattle.std.specs.Prelude.{slice_set}
use Rattle.ro_replica.specs.Seen.{ReplicaOf}
use Rattle.ro_core.proofs.Sitting.{seat-found}
use Rattle.ro_core.proofs.seats.Seats.lend_pages.Goals as goal

pub lend_pages-requires-clause-there : goal.lend_pages-requires-clause-there
lend_pages-requires-clause-there c = (c.requires.home.0, seat-found c.args.self.now.homes.items c.args.replica c.requires.home.0 c.index_mut.result.now c.requires.home.1 c.index_mut.ensures.value)

pub lend_pages-requires-clause-can : goal.lend_pages-requires-clause-can
lend_pages-requires-clause-can c value is =
    let at = seat-found c.args.self.now.homes.items c.args.replica c.requires.home.0 c.index_mut.result.now c.requires.home.1 c.index_mut.ensures.value in
    c.requires.can value (c.requires.home.1 ∙ ap (λ (o : Option ReplicaOf). Some o) (sym at ∙ is))

pub returns-clause-homes : goal.returns-clause-homes
returns-clause-homes c value there =
    let at = seat-found c.args.self.now.homes.items c.args.replica value c.index_mut.result.now there c.index_mut.ensures.value in
    let after = c.lend_pages.ensures value at in
    (after.0, ap (slice_set c.args.self.now.homes.items c.args.replica) after.1, after.2)
