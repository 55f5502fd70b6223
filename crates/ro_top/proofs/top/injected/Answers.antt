use Rattle.ro_words.specs.Commands.{inject_by}
use Rattle.ro_top.proofs.Made.{is_draw}
use Rattle.ro_top.proofs.top.injected.Goals as goal

pub returns-in-Ok-clause-draw : goal.returns-in-Ok-clause-draw
returns-in-Ok-clause-draw g c =
    let made = c.in-Ok.ensures.image in
    is_draw (g.S.Store.told c.args.store.now) (inject_by c.args.command.now) c.in-Ok.image made.0 made.1 made.2 made.3 _ _ _ _ c.inject.result c.inject.ensures
