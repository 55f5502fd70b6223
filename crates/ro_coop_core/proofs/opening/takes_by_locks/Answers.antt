use Rattle.std.proofs.Common.{◌≡◌, drop, not, sym, ap, ◌∙◌, arith}
use Rattle.ro_event.specs.Functions.{functions}
use Rattle.ro_orders.specs.Choices.{has_otherwise}
use Rattle.ro_coop_core.proofs.Begins.{none-left}
use Rattle.ro_coop_core.proofs.opening.takes_by_locks.Goals as goal

pub returns : goal.returns
returns c =
    let all : c.loop-place.place ≡ 14 = omega (arith, c.loop-place.auto.place-end, c.loop-place-test.false) in
    ap not (sym (c.loop-place.invariant ∙ (ap (λ n. has_otherwise (drop n c.args.image.now.calls.addresses) (drop n functions)) all ∙ none-left (drop 14 c.args.image.now.calls.addresses))))
