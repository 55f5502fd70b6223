use Rattle.std.proofs.Common.{false, None, Some, true≢false, refl, sym, ◌∙◌, subst}
use Rattle.ro_coop_core.specs.Numbers.{HasMutexes}
use Rattle.ro_coop_core.specs.Runs.{fields_of, state_of}
use Rattle.ro_coop_core.proofs.Tests.{seat-at, away, parked-is, partner-has}
use Rattle.ro_coop_core.proofs.cores.Core.is_parked.Goals as goal

pub is_kept-requires-clause-had : goal.is_kept-requires-clause-had
is_kept-requires-clause-had c =
    let f = fields_of c.args.self.now in
    let seat = c.index-seat.result.now in
    let there = seat-at f c.requires.holds c.args.replica seat c.requires.replica c.index-seat.ensures in
    subst (HasMutexes (state_of c.args.self.now)) (sym c.mutexes.ensures) (partner-has f c.requires.holds c.args.replica seat c.in-Some-Some.partner there c.in-Some-Some.is-0)

pub returns-in-Some-Some : goal.returns-in-Some-Some
returns-in-Some-Some c home =
    let f = fields_of c.args.self.now in
    let seat = c.index-seat.result.now in
    let there = seat-at f c.requires.holds c.args.replica seat c.requires.replica c.index-seat.ensures in
    parked-is f c.requires.holds c.args.replica c.args.thread seat c.in-Some-Some.partner there c.in-Some-Some.is-0 c.is_kept.result (Some c.in-Some-Some.parking)
    (sym c.parking.ensures ∙ c.in-Some-Some.is-1) (λ side same parks. c.is_kept.ensures side (same ∙ sym c.mutexes.ensures) parks)

pub returns-in_default : goal.returns-in_default
returns-in_default c home =
    let f = fields_of c.args.self.now in
    let seat = c.index-seat.result.now in
    let there = seat-at f c.requires.holds c.args.replica seat c.requires.replica c.index-seat.ensures in
    parked-is f c.requires.holds c.args.replica c.args.thread seat c.in_default.field-0-0 there c.in_default.is-0 false None (sym c.parking.ensures ∙ c.in_default.is-1) (λ side same parks. refl)

pub returns-in_default-2 : goal.returns-in_default-2
returns-in_default-2 c home =
    let f = fields_of c.args.self.now in
    let seat = c.index-seat.result.now in
    let there = seat-at f c.requires.holds c.args.replica seat c.requires.replica c.index-seat.ensures in
    absurd (true≢false (sym home ∙ away f c.requires.holds c.args.replica seat there c.in_default.is-0))
