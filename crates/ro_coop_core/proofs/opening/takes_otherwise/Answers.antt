use Rattle.std.proofs.Common.{◌∷◌, ◌||◌, ◌&&◌, ◌+◌, drop, sym, ap, ◌∙◌}
use Rattle.ro_event.specs.Functions.{functions}
use Rattle.ro_event.specs.declared.calls.Which.TheVariants.{Function}
use Rattle.ro_orders.specs.Turns.{takes_otherwise}
use Rattle.ro_orders.specs.Choices.{has_otherwise}
use Rattle.ro_coop_core.proofs.Begins.{otherwise-cons}
use Rattle.ro_coop_core.proofs.opening.takes_otherwise.Goals as goal

pub returns-else-is_some : goal.returns-else-is_some
returns-else-is_some c others =
    ap (has_otherwise (c.args.address ∷ others)) c.at-function.ensures
    ∙ (otherwise-cons c.args.address others c.at-function.result (drop (c.args.place + 1) functions)
    ∙ ap (λ b. (b && takes_otherwise (Function c.at-function.result)) || has_otherwise others (drop (c.args.place + 1) functions)) (sym c.is_some.ensures ∙ c.if-is_some.false)
    ∙ ap (λ b. b || has_otherwise others (drop (c.args.place + 1) functions)) (sym c.if-is_some.false))
