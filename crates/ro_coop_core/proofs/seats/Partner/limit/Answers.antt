use Rattle.std.proofs.Common.{length, sym, ap, ◌∙◌, subst, arith}
use Rattle.std.proofs.lemmas.List.{with_items_is}
use Rattle.std.proofs.lemmas.Option.{slice_get_within}
use Rattle.ro_legal.proofs.Lists.{get-within}
use Rattle.ro_coop_core.specs.Seen.{AreCeilings}
use Rattle.ro_coop_core.proofs.Numbered.{know-mutex}
use Rattle.ro_coop_core.proofs.seats.Partner.limit.Goals as goal

pub set_ceilings-requires-clause-known : goal.set_ceilings-requires-clause-known
set_ceilings-requires-clause-known c number less =
    let w = c.requires.known in
    let m = get-within c.args.self.now.peer.mutexes number (omega (arith, c.requires.count, ap length c.as_mut_slice-ceilings.ensures.value)) in
    know-mutex number m.0.address w.0 c.args.seats.now (w.1.known number m.0 m.1)

pub returns-clause-ceilings : goal.returns-clause-ceilings
returns-clause-ceilings c core side seat same know there parks =
    let items = with_items_is c.args.self.now.ceilings c.give_way.new.ceilings (c.give_way.ensures.count ∙ (c.set_ceilings.ensures.count ∙ c.as_mut_slice-ceilings.ensures.len)) in
    subst (AreCeilings core side c.args.thread) (sym items) (c.give_way.ensures.ceilings core side seat (same ∙ sym c.mutexes.ensures) know there parks
    (λ number mutex e. c.set_ceilings.ensures.ceilings core.sides number mutex.address
    (let within = slice_get_within side.mutexes number mutex e in omega (arith, c.requires.count, ap length same, ap length c.as_mut_slice-ceilings.ensures.value)) (know.known number mutex e)))
