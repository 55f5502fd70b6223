use Rattle.std.proofs.Common.{◌≡◌, refl, sym, ◌∙◌, subst}
use Rattle.ro_plain.proofs.Calls.{some-injective}
use Rattle.ro_replica.specs.Seen.{ReplicaOf}
use Rattle.ro_core.specs.Seated.{LendsPages}
use Rattle.ro_core.proofs.seats.lend_pages.Goals as goal

pub lend_pages-requires-clause-none : goal.lend_pages-requires-clause-none
lend_pages-requires-clause-none c = (c.requires.can c.in-Some.replica c.in-Some.is).none

pub lend_pages-requires-clause-few : goal.lend_pages-requires-clause-few
lend_pages-requires-clause-few c = (c.requires.can c.in-Some.replica c.in-Some.is).few

pub lend_pages-requires-clause-low : goal.lend_pages-requires-clause-low
lend_pages-requires-clause-low c = (c.requires.can c.in-Some.replica c.in-Some.is).low

pub returns-in-Some : goal.returns-in-Some
returns-in-Some c = λ value there.
    let e = c.lend_pages.ensures in
    let same : c.in-Some.replica ≡ value = some-injective (sym c.in-Some.is ∙ there) in (
      c.lend_pages.new.self,
      refl,
      subst (λ (v : ReplicaOf). LendsPages c.args.thread c.args.wish.now v c.lend_pages.new.self c.lend_pages.new.lane) same (record {
        program = e.program;
        lane_program = e.lane;
        pages = e.pages;
        low = e.low;
        began = e.began;
        moved = e.moved;
        lent = e.lent;
        rest = e.rest;
        beside = e.beside;
      }),
    )
