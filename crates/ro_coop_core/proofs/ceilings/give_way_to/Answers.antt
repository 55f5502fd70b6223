use Rattle.std.proofs.Common.{List, length, refl, sym, ap, ◌∙◌}
use Rattle.std.specs.Prelude.{min, slice_get, slice_set, slice_index_or}
use Rattle.ro_peer.specs.declared.mutexes.Mutex.{Mutex}
use Rattle.ro_peer.specs.Seen.{number_of}
use Rattle.ro_coop_core.proofs.Numbered.{know-mutex}
use Rattle.ro_coop_core.proofs.Limiting.{lowers-it}
use Rattle.ro_coop_core.proofs.ceilings.give_way_to.Goals as goal

pub first_given_up-requires : goal.first_given_up-requires
first_given_up-requires c = record {
  known = let w = c.requires.known in know-mutex c.in-Some-number.number c.mutex-mutex.result.address w.0 c.args.seats.now (w.1.known c.in-Some-number.number c.mutex-mutex.result c.mutex-mutex.ensures);
}

pub returns-then-not-has_asked-clause-ceilings : goal.returns-then-not-has_asked-clause-ceilings
returns-then-not-has_asked-clause-ceilings c core side other same know parks others =
    let number = c.in-Some-number.number in
    let mutex = c.mutex-mutex.result in
    let there = ap (λ (ms : List Mutex). slice_get ms number) same ∙ c.mutex-mutex.ensures in
    lowers-it core side c.args.thread other others c.args.seats.now know c.in-Some.parking (parks ∙ c.in-Some.is) number mutex
    (ap (λ (ms : List Mutex). number_of ms c.in-Some.parking.mutex) same ∙ (sym c.number.ensures.number ∙ c.in-Some-number.is)) there
    c.args.ceilings.now _ (c.requires.count ∙ sym (ap length same)) (sym c.has_asked.ensures ∙ c.if-not-has_asked.true)
    (ap (slice_set c.args.ceilings.now number) (c.min.ensures ∙ ap (min (slice_index_or c.args.ceilings.now number 0)) (c.first_given_up.ensures core mutex refl (know.known number mutex there) (know.near number mutex there))))
