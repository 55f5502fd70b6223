use Rattle.std.proofs.Common.{◌≡◌, ◌<◌, List, Some, length, refl, sym, subst, arith}
use Rattle.std.specs.Prelude.{slice_get}
use Rattle.std.proofs.lemmas.Bool.{ltb-true}
use Rattle.std.proofs.lemmas.Option.{slice_get_read, slice_get_within}
use Rattle.ro_coop_core.specs.declared.seats.Seat.{Seat}
use Rattle.ro_coop_core.specs.Runs.{fields_of, state_of}
use Rattle.ro_coop_core.proofs.Tests.{here, peer-is}
use Rattle.ro_coop_core.proofs.cores.Core.peer.Goals as goal

-- the seat that is read
abbrev there : (c : goal.In_ok-partner) → slice_get c.args.self.now.seats.items c.args.number ≡ Some c.in_ok-get.field-0.now
there c =
    let seats = c.deref.result.now in
    subst (λ (seats : List Seat). slice_get seats c.args.number ≡ Some c.in_ok-get.field-0.now) c.deref.ensures.value
    (slice_get_read seats (length seats) c.args.number c.in_ok-get.field-0.now refl (ltb-true c.args.number (length seats) (sym c.in_ok-get.ensures.lookup.0)) c.in_ok-get.ensures.lookup.1)

pub returns-clause-there : goal.returns-clause-there
returns-clause-there c h = peer-is (fields_of c.args.self.now) h c.args.number c.in_ok-get.field-0.now c.in_ok-partner.partner.now (there c) (sym c.in_ok-partner.ensures.value)

pub returns-clause-home : goal.returns-clause-home
returns-clause-home c h =
    let seats = c.args.self.now.seats.items in
    let at = here (fields_of c.args.self.now) h c.args.number c.in_ok-get.field-0.now c.in_ok-partner.partner.now (there c) (sym c.in_ok-partner.ensures.value) in
    let within : c.args.number < length seats = slice_get_within seats c.args.number c.in_ok-get.field-0.now (there c) in
    let count : length seats ≡ length (state_of c.args.self.now).replicas = h.seats_are.count in
    let under : c.args.number < length (state_of c.args.self.now).replicas = omega (arith, within, count) in
    (λ some. (under, at.home), λ both. refl)
