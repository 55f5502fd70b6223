use Rattle.std.proofs.Common.{◌≡◌, List, ap, ◌∙◌}
use Rattle.std.specs.Prelude.{◌||◌, not}
use Rattle.std.specs.List.{list_all}
use Rattle.ro_coop_core.specs.declared.seats.Seat.{Seat}
use Rattle.ro_coop_core.specs.Seats.{seat_answered}
use Rattle.ro_coop_core.specs.Runs.{fields_of}
use Rattle.ro_coop_core.proofs.Views.{lapses-told, lapses-untold}
use Rattle.ro_coop_core.proofs.cores.Core.lapses_alike.Goals as goal

pub returns-then-have_answered_alike-clause-alike : goal.returns-then-have_answered_alike-clause-alike
returns-then-have_answered_alike-clause-alike c =
    lapses-told (fields_of c.args.self.now) c.requires.holds c.args.thread c.requires.may c.have_answered_alike.result
    (c.have_answered_alike.ensures ∙ ap (λ (seats : List Seat). list_all (seat_answered c.args.thread) seats || list_all (λ seat. not (seat_answered c.args.thread seat)) seats) c.as_slice.ensures.value)
    c.if-have_answered_alike.true

pub returns-else-have_answered_alike-clause-alike : goal.returns-else-have_answered_alike-clause-alike
returns-else-have_answered_alike-clause-alike c =
    lapses-untold (fields_of c.args.self.now) c.requires.holds c.args.thread c.requires.may c.have_answered_alike.result c.is_reserving.result
    (c.have_answered_alike.ensures ∙ ap (λ (seats : List Seat). list_all (seat_answered c.args.thread) seats || list_all (λ seat. not (seat_answered c.args.thread seat)) seats) c.as_slice.ensures.value)
    c.if-have_answered_alike.false
    c.is_reserving.ensures.is
