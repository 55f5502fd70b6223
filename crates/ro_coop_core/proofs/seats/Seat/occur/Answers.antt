use Rattle.std.proofs.Common.{◌<◌, ◌≡◌, None, length, refl, sym, ap, subst}
use Rattle.std.specs.Prelude.{vec_len, vec_capacity}
use Rattle.ro_peer.specs.Seen.{number_of}
use Rattle.ro_coop_core.proofs.Happening.{plain-seat, entered-seat}
use Rattle.ro_coop_core.proofs.seats.Seat.occur.Goals as goal

pub occur-requires-clause-applies : goal.occur-requires-clause-applies
occur-requires-clause-applies c = (c.requires.can c.in-Some.partner c.in-Some.is).applies

pub occur-requires-clause-thread : goal.occur-requires-clause-thread
occur-requires-clause-thread c = (c.requires.can c.in-Some.partner c.in-Some.is).thread_made

pub enter-requires-clause-few : goal.enter-requires-clause-few
enter-requires-clause-few c =
    subst (λ ms. length ms < 256) (sym (ap (λ p. p.mutexes) c.occur.ensures.peer)) ((c.requires.can c.in-Some.partner c.in-Some.is).few c.in-Some-entering.entering c.in-Some-entering.is)

pub enter-requires-clause-new : goal.enter-requires-clause-new
enter-requires-clause-new c =
    subst (λ ms. number_of ms c.in-Some-entering.entering.address ≡ None) (sym (ap (λ p. p.mutexes) c.occur.ensures.peer)) ((c.requires.can c.in-Some.partner c.in-Some.is).new c.in-Some-entering.entering c.in-Some-entering.is)

pub enter-requires-clause-room : goal.enter-requires-clause-room
enter-requires-clause-room c =
    subst (λ cs. vec_len cs < vec_capacity cs) (sym c.occur.ensures.ceilings) ((c.requires.can c.in-Some.partner c.in-Some.is).room c.in-Some-entering.entering c.in-Some-entering.is)

pub returns-in-Some-entering : goal.returns-in-Some-entering
returns-in-Some-entering c job before after replica side gives ranked home =
    entered-seat job before after c.args.effect.now c.args.thread replica side gives c.args.self.now _ c.in-Some.partner c.occur.new.self c.enter.new.self c.args.entering c.in-Some-entering.entering c.in-Some-entering.is refl refl c.enter-in-Some-entering.ensures.lists
    c.in-Some.is refl c.occur.ensures.program c.occur.ensures.peer c.occur.ensures.ceilings c.enter.ensures.program c.enter.ensures.peer c.enter.ensures.ceilings ranked
    ((c.requires.can c.in-Some.partner c.in-Some.is).new c.in-Some-entering.entering c.in-Some-entering.is) home

pub returns-in_default-entering : goal.returns-in_default-entering
returns-in_default-entering c job before after replica side gives ranked home =
    plain-seat job before after c.args.effect.now c.args.thread replica side gives c.args.self.now _ c.in-Some.partner c.occur.new.self c.args.entering c.in_default-entering.is refl refl refl
    c.in-Some.is refl c.occur.ensures.program c.occur.ensures.peer c.occur.ensures.ceilings (c.requires.can c.in-Some.partner c.in-Some.is).clean home
