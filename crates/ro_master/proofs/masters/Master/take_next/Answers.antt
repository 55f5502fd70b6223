use Rattle.std.proofs.Common.{Option, Some, None, sym, subst}
use Rattle.std.specs.Option.{MatchOption, option_and_then}
use Rattle.ro_cores.specs.Loans.{BackOf}
use Rattle.ro_legal.specs.Core.{Job}
use Rattle.ro_master.specs.Desks.{HeldOf, AtRest, MayGiveBack, IsAtRest, IsReturning}
use Rattle.ro_master.proofs.Returning.{turn_wants}
use Rattle.ro_master.proofs.Known.{held_rests, between_knows}
use Rattle.ro_master.proofs.masters.Master.take_next.Goals as goal

-- what the pass alone needs
pass_may : (job : Job) (h : HeldOf) (back : Option BackOf) → MatchOption back (IsAtRest job h) (IsReturning job h) → MatchOption back (AtRest job h.pass) (MayGiveBack job h.pass)
pass_may job h None rest = rest.0
pass_may job h (Some back) may = may.may

pub locked_next-answer-requires : goal.locked_next-answer-requires
locked_next-answer-requires g c =
    let h : HeldOf = record { pass = c.held.inside.pass; share = option_and_then g.C.RunCore.share_of c.held.inside.share } in
    pass_may g.N.Naming.start.job h c.args.back (subst (λ (x : HeldOf). MatchOption c.args.back (IsAtRest g.N.Naming.start.job x) (IsReturning g.N.Naming.start.job x)) (sym c.held.view_is) c.requires)

pub returns-clause-wants : goal.returns-clause-wants
returns-clause-wants g c = let did = c.locked_next-answer.ensures.did in turn_wants g.N.Naming.start c.locked_next-answer.result.0 did.between c.locked_next-answer.new.pass did.turn

pub returns-clause-rest : goal.returns-clause-rest
returns-clause-rest g c =
    let h : HeldOf = record { pass = c.held.inside.pass; share = option_and_then g.C.RunCore.share_of c.held.inside.share } in
    let did = c.locked_next-answer.ensures.did in
    held_rests g.N.Naming.start c.locked_next-answer.result.0 did.between c.locked_next-answer.new.pass h.share did.turn
    (between_knows g.N.Naming.start c.args.back h c.locked_next-answer.result.0 c.locked_next-answer.new.pass did (subst (λ (x : HeldOf). MatchOption c.args.back (IsAtRest g.N.Naming.start.job x) (IsReturning g.N.Naming.start.job x)) (sym c.held.view_is) c.requires))
    c.locked_next-answer.ensures.rest
