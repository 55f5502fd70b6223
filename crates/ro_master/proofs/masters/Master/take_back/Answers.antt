use Rattle.std.proofs.Common.{sym, subst}
use Rattle.std.specs.Option.{option_and_then}
use Rattle.ro_master.specs.Desks.{HeldOf, IsReturning}
use Rattle.ro_master.proofs.Known.{put_knows}
use Rattle.ro_master.proofs.masters.Master.take_back.Goals as goal

pub locked_put-wakes-requires : goal.locked_put-wakes-requires
locked_put-wakes-requires g c = (subst (λ (h : HeldOf). IsReturning g.N.Naming.start.job h c.args.back) (sym c.held.view_is) c.requires).may

pub returns-clause-rest : goal.returns-clause-rest
returns-clause-rest g c =
    let h : HeldOf = record { pass = c.held.inside.pass; share = option_and_then g.C.RunCore.share_of c.held.inside.share } in
    (c.locked_put-wakes.ensures.rest, put_knows g.N.Naming.start c.args.back h c.locked_put-wakes.new.pass c.locked_put-wakes.ensures.did (subst (λ (x : HeldOf). IsReturning g.N.Naming.start.job x c.args.back) (sym c.held.view_is) c.requires))
