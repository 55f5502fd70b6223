use Rattle.std.proofs.Common.{ap, ◌∙◌, length, arith}
use Rattle.ro_machine.proofs.calls.stored_by.Goals as goal

pub returns-in-None-clause-low : goal.returns-in-None-clause-low
returns-in-None-clause-low c =
    let count = ap length c.as_slice.ensures.value ∙ ap (λ e. length e.bytes) c.effect.view_is in
    let place = ap (λ e. e.place) c.effect.view_is in
    omega (arith, count, place, c.requires.within)
