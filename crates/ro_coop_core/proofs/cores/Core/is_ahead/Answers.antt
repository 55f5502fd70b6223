use Rattle.std.proofs.Common.{List, sym, ap, ◌∙◌, subst, arith}
use Rattle.std.proofs.Math.Dec.{leb}
use Rattle.ro_legal.specs.Sides.{is_ahead}
use Rattle.ro_coop_core.specs.declared.seats.Seat.{Seat}
use Rattle.ro_coop_core.specs.Seats.{AreNumbered, KnowMutex}
use Rattle.ro_coop_core.specs.Runs.{fields_of, state_of}
use Rattle.ro_coop_core.proofs.Barred.{seats-numbered, seats-know, not-below}
use Rattle.ro_coop_core.proofs.cores.Core.is_ahead.Goals as goal

pub ceiling-requires : goal.ceiling-requires
ceiling-requires c =
    let next = c.requires.next in
    record {
      known = subst (λ (seats : List Seat). KnowMutex c.args.number seats) (sym c.as_slice.ensures.value) (seats-know (fields_of c.args.self.now) c.requires.holds c.args.number next.0 c.args.rank next.1);
    }

pub returns : goal.returns
returns c address next =
    let sides = (state_of c.args.self.now).sides in
    let numbered = subst (λ (seats : List Seat). AreNumbered c.args.number address sides seats) (sym c.as_slice.ensures.value) (seats-numbered (fields_of c.args.self.now) c.requires.holds c.args.number address c.args.rank next) in
    ap (λ rank. leb c.ceiling.result rank) c.from.ensures
    ∙ not-below c.ceiling.result c.args.rank (is_ahead sides address c.args.rank) (c.ceiling.ensures sides address numbered c.args.rank (omega (arith, c.ranges.rank.fits)))
