use Rattle.std.proofs.Common.{◌≡◌, not, List, ℕ, length, sym, ap, ◌∙◌, subst, arith}
use Rattle.std.specs.Prelude.{nat_lt, slice_index_or}
use Rattle.std.proofs.lemmas.List.{with_items_is}
use Rattle.std.proofs.lemmas.Option.{slice_get_within}
use Rattle.ro_peer.specs.Seen.{peer_of}
use Rattle.ro_legal.specs.Sides.{is_ahead}
use Rattle.ro_legal.proofs.Lists.{get-within}
use Rattle.ro_coop_core.specs.declared.seats.Seat.{Seat}
use Rattle.ro_coop_core.specs.Seats.{AreNumbered}
use Rattle.ro_coop_core.specs.Runs.{fields_of, state_of}
use Rattle.ro_coop_core.proofs.Numbered.{know-mutex}
use Rattle.ro_coop_core.proofs.Bounding.{peer-few, peer-numbered}
use Rattle.ro_coop_core.proofs.cores.Core.bound.Goals as goal

pub set_ceilings-requires-clause-few : goal.set_ceilings-requires-clause-few
set_ceilings-requires-clause-few c =
    let few = peer-few (fields_of c.args.self.now) c.requires.holds c.args.replica (peer_of c.args.partner.now.peer) c.requires.peer in
    omega (arith, c.requires.count, ap length c.as_mut_slice.ensures.value)

pub set_ceilings-requires-clause-known : goal.set_ceilings-requires-clause-known
set_ceilings-requires-clause-known c number less =
    let m = get-within c.args.partner.now.peer.mutexes number (omega (arith, c.requires.count, ap length c.as_mut_slice.ensures.value)) in
    let sides = (state_of c.args.self.now).sides in
    know-mutex number m.0.address sides c.as_slice.result.now
    (subst (λ (seats : List Seat). AreNumbered number m.0.address sides seats) (sym c.as_slice.ensures.value)
    (peer-numbered (fields_of c.args.self.now) c.requires.holds c.args.replica (peer_of c.args.partner.now.peer) c.requires.peer number m.0 m.1))

pub returns-clause-ceilings : goal.returns-clause-ceilings
returns-clause-ceilings c number rank mutex there small =
    let sides = (state_of c.args.self.now).sides in
    let items = with_items_is c.args.partner.now.ceilings c.set_ceilings.new.ceilings (c.set_ceilings.ensures.count ∙ c.as_mut_slice.ensures.len) in
    let within = slice_get_within c.args.partner.now.peer.mutexes number mutex there in
    subst (λ (ceilings : List ℕ). nat_lt rank (slice_index_or ceilings number 0) ≡ not (is_ahead sides mutex.address rank)) (sym items)
    (c.set_ceilings.ensures.ceilings sides number mutex.address (omega (arith, c.requires.count, ap length c.as_mut_slice.ensures.value))
    (subst (λ (seats : List Seat). AreNumbered number mutex.address sides seats) (sym c.as_slice.ensures.value)
    (peer-numbered (fields_of c.args.self.now) c.requires.holds c.args.replica (peer_of c.args.partner.now.peer) c.requires.peer number mutex there)) rank small)
