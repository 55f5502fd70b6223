use Rattle.std.proofs.Common.{sym, subst}
use Rattle.std.specs.Option.{option_and_then}
use Rattle.ro_master.specs.Desks.{IsAtRest}
use Rattle.ro_master.proofs.Returning.{turn_wants}
use Rattle.ro_master.proofs.Known.{held_rests}
use Rattle.ro_master.proofs.masters.Master.take_turn.Goals as goal

pub returns-clause-wants : goal.returns-clause-wants
returns-clause-wants g c = turn_wants g.N.Naming.start c.locked_turn-answer.result.0 c.held.inside.pass c.locked_turn-answer.new.pass c.locked_turn-answer.ensures.did

pub returns-clause-rest : goal.returns-clause-rest
returns-clause-rest g c =
    held_rests g.N.Naming.start c.locked_turn-answer.result.0 c.held.inside.pass c.locked_turn-answer.new.pass (option_and_then g.C.RunCore.share_of c.held.inside.share) c.locked_turn-answer.ensures.did
    (subst (IsAtRest g.N.Naming.start.job) (sym c.held.view_is) c.requires).1 c.locked_turn-answer.ensures.rest
