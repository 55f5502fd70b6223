use Rattle.std.proofs.Common.{◌≡◌, List, Option, Some, length, refl, sym, ap, ◌∙◌, subst}
use Rattle.std.specs.Prelude.{◌≤◌, ℕ, slice_get}
use Rattle.std.specs.Option.{option_and_then}
use Rattle.std.proofs.lemmas.Bool.{ltb-true}
use Rattle.std.proofs.lemmas.Option.{slice_get_read, slice_get_past}
use Rattle.ro_legal.specs.declared.parkings.Parking.{Parking}
use Rattle.ro_legal.specs.Sides.{Side}
use Rattle.ro_coop_core.specs.declared.seats.Seat.{Seat}
use Rattle.ro_coop_core.specs.Runs.{fields_of, state_of}
use Rattle.ro_coop_core.specs.Seen.{parked_in}
use Rattle.ro_coop_core.proofs.Makes.{sides-many}
use Rattle.ro_coop_core.proofs.cores.Core.parking.Goals as goal

pub returns : goal.returns
returns c h = is
  where
    seats : List Seat
    seats = c.deref.result.now

    there : slice_get c.args.self.now.seats.items c.args.number ≡ Some c.in_ok-get.field-0.now
    there =
        subst (λ (seats : List Seat). slice_get seats c.args.number ≡ Some c.in_ok-get.field-0.now) c.deref.ensures.value
        (slice_get_read seats (length seats) c.args.number c.in_ok-get.field-0.now refl (ltb-true c.args.number (length seats) (sym c.in_ok-get.ensures.lookup.0)) c.in_ok-get.ensures.lookup.1)

    is : c.parking.result ≡ parked_in (state_of c.args.self.now) c.args.number c.args.thread
    is =
        let seated = h.seats_are.each c.args.number c.in_ok-get.field-0.now there in
        c.parking.ensures ∙ seated.knows.parked c.args.thread ∙ ap (λ (o : Option Side). option_and_then (λ side. side.parked c.args.thread) o) (sym seated.side_there)

pub returns-in_err-get : goal.returns-in_err-get
returns-in_err-get c h = c.from_residual.ensures ∙ sym (ap (λ (o : Option Side). option_and_then (λ side. side.parked c.args.thread) o) (slice_get_past (state_of c.args.self.now).sides c.args.number past))
  where
    seats : List Seat
    seats = c.deref.result.now

    as_many : length (state_of c.args.self.now).sides ≡ length seats
    as_many = sides-many (fields_of c.args.self.now) h ∙ sym h.seats_are.count ∙ sym (ap (λ (all : List Seat). length all) c.deref.ensures.value)

    past : length (state_of c.args.self.now).sides ≤ c.args.number
    past = subst (λ (n : ℕ). n ≤ c.args.number) (sym as_many) c.in_err-get.ensures.lookup.3
