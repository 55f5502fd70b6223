use Rattle.std.proofs.Common.{◌≡◌, ◌||◌, not, length, List, None, Some, sym, ap, ◌∙◌, subst}
use Rattle.std.specs.Prelude.{◌==◌, ℕ}
use Rattle.ro_journal.specs.declared.Lease.{Lease}
use Rattle.ro_legal.specs.Sides.{is_ahead}
use Rattle.ro_legal.specs.Core.{nothing_lent, is_awaited}
use Rattle.ro_coop_core.specs.declared.seats.Seat.{Seat}
use Rattle.ro_coop_core.specs.Seats.{AreNumbered, KnowMutex}
use Rattle.ro_coop_core.specs.Runs.{fields_of, state_of}
use Rattle.ro_coop_core.proofs.Tests.{leases-are}
use Rattle.ro_coop_core.proofs.Barred.{seats-numbered, are-near, seats-know, barred-by}
use Rattle.ro_coop_core.proofs.cores.Core.is_barred.Goals as goal
use Rattle.ro_coop_core.proofs.cores.Core.is_barred.Goals.{then-is_ahead, else-is_ahead}

pub taker-requires : goal.taker-requires
taker-requires c = record {
  known = subst (λ (seats : List Seat). KnowMutex c.args.number seats) (sym c.as_slice.ensures.value) (seats-know (fields_of c.args.self.now) c.requires.holds c.args.number c.args.parking.mutex c.args.parking.rank c.requires.next);
}

pub returns-in-Some : goal.returns-in-Some
returns-in-Some c side parks =
    let f = fields_of c.args.self.now in
    let core = state_of c.args.self.now in
    let parking = c.args.parking in
    let numbered = subst (λ (seats : List Seat). AreNumbered c.args.number parking.mutex core.sides seats) (sym c.as_slice.ensures.value) (seats-numbered f c.requires.holds c.args.number parking.mutex parking.rank c.requires.next) in
    let taken = c.taker.ensures core.sides parking.mutex numbered (are-near f c.requires.holds c.args.number parking.mutex parking.rank c.requires.next) in
    barred-by core side c.args.thread parking.mutex parking.rank (Some c.in-Some.other) (sym c.in-Some.is ∙ taken)

pub returns-then-is_awaited : goal.returns-then-is_awaited
returns-then-is_awaited c side parks =
    let f = fields_of c.args.self.now in
    let core = state_of c.args.self.now in
    let parking = c.args.parking in
    let numbered = subst (λ (seats : List Seat). AreNumbered c.args.number parking.mutex core.sides seats) (sym c.as_slice.ensures.value) (seats-numbered f c.requires.holds c.args.number parking.mutex parking.rank c.requires.next) in
    let taken = c.taker.ensures core.sides parking.mutex numbered (are-near f c.requires.holds c.args.number parking.mutex parking.rank c.requires.next) in
    let ahead = c.is_ahead.ensures parking.mutex c.requires.next in
    let either : c.if-is_ahead.value ≡ (is_ahead core.sides parking.mutex parking.rank || is_awaited side c.args.thread parking.mutex parking.rank) =
    elim c.if-is_ahead.branch [
      | then-is_ahead w ↦ w.value-is ∙ w.if-is_ahead.true ∙ ap (λ b. b || is_awaited side c.args.thread parking.mutex parking.rank) (sym w.if-is_ahead.true ∙ ahead)
      | else-is_ahead w ↦ w.value-is ∙ w.is_awaited.ensures side parks ∙ ap (λ b. b || is_awaited side c.args.thread parking.mutex parking.rank) (sym w.if-is_ahead.false ∙ ahead)
    ] in
    c.if-is_awaited.true
    ∙ ap (λ held. held || not (nothing_lent core)) (sym c.if-is_awaited.true ∙ either)
    ∙ barred-by core side c.args.thread parking.mutex parking.rank None (sym c.in-None.is ∙ taken)

pub returns-else-is_awaited : goal.returns-else-is_awaited
returns-else-is_awaited c side parks =
    let f = fields_of c.args.self.now in
    let core = state_of c.args.self.now in
    let parking = c.args.parking in
    let numbered = subst (λ (seats : List Seat). AreNumbered c.args.number parking.mutex core.sides seats) (sym c.as_slice.ensures.value) (seats-numbered f c.requires.holds c.args.number parking.mutex parking.rank c.requires.next) in
    let taken = c.taker.ensures core.sides parking.mutex numbered (are-near f c.requires.holds c.args.number parking.mutex parking.rank c.requires.next) in
    let ahead = c.is_ahead.ensures parking.mutex c.requires.next in
    let either : c.if-is_ahead.value ≡ (is_ahead core.sides parking.mutex parking.rank || is_awaited side c.args.thread parking.mutex parking.rank) =
    elim c.if-is_ahead.branch [
      | then-is_ahead w ↦ w.value-is ∙ w.if-is_ahead.true ∙ ap (λ b. b || is_awaited side c.args.thread parking.mutex parking.rank) (sym w.if-is_ahead.true ∙ ahead)
      | else-is_ahead w ↦ w.value-is ∙ w.is_awaited.ensures side parks ∙ ap (λ b. b || is_awaited side c.args.thread parking.mutex parking.rank) (sym w.if-is_ahead.false ∙ ahead)
    ] in
    let lent = c.is_empty.ensures ∙ ap (λ (n : ℕ). n == 0) c.args.self.now.leases.ok.0 ∙ ap (λ (leases : List Lease). length leases == 0) (sym (leases-are f c.requires.holds)) in
    ap not lent
    ∙ ap (λ held. held || not (nothing_lent core)) (sym c.if-is_awaited.false ∙ either)
    ∙ barred-by core side c.args.thread parking.mutex parking.rank None (sym c.in-None.is ∙ taken)
