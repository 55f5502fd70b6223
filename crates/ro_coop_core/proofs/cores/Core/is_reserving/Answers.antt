use Rattle.std.proofs.Common.{◌≡◌, List, Option, None, ap, ◌∙◌}
use Rattle.std.specs.Prelude.{slice_set}
use Rattle.ro_kernel.specs.declared.reservations.Reservation.{Reservation}
use Rattle.ro_kernel.specs.State.{State}
use Rattle.ro_kernel.proofs.Reserving.{given_back}
use Rattle.ro_coop_core.proofs.cores.Core.is_reserving.Goals as goal

pub returns-clause-same : goal.returns-clause-same
returns-clause-same c =
    let state : State = c.args.self.now.kernel in
    let thread = c.args.thread in
    ap (λ (s : State). record c.args.self.now { kernel = s }) (
    c.restore.ensures
    ∙ ap (λ (s : State). record s { kernel = record s.kernel { reserved = slice_set s.kernel.reserved thread c.release-reservation.result } }) c.release-reservation.ensures.kernel
    ∙ ap (λ (o : Option Reservation). record state { kernel = record state.kernel { reserved = slice_set (slice_set state.kernel.reserved thread None) thread o } }) c.release-reservation.ensures.was
    ∙ ap (λ (rs : List (Option Reservation)). record state { kernel = record state.kernel { reserved = rs } }) (given_back state.kernel.reserved thread))
