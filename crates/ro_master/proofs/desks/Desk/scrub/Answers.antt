use Rattle.std.proofs.Common.{◌≡◌, sym, subst}
use Rattle.ro_legal.specs.declared.actions.Action.TheVariants as act
use Rattle.ro_legal.specs.Action.{next_action}
use Rattle.ro_cores.specs.Cores.{state}
use Rattle.ro_master.specs.Desks.{DeskOf}
use Rattle.ro_master.proofs.Deciding.{scrub_going}
use Rattle.ro_master.proofs.LastViews.{going_open}
use Rattle.ro_master.proofs.Tying.{tied_scrub, tied_stay}
use Rattle.ro_master.proofs.desks.Desk.scrub.Goals as goal

pub scrub-requires : goal.scrub-requires
scrub-requires g c =
    subst (λ (v : DeskOf). next_action v.core.job (state v.core) ≡ act.Scrub) (sym c.self.view_is) c.requires

pub invariant_of-self : goal.invariant_of-self
invariant_of-self g c =
    let core = c.self.inside.core in
    let is = subst (λ (v : DeskOf). next_action v.core.job (state v.core) ≡ act.Scrub) (sym c.self.view_is) c.requires in
    let e = c.in-Ok.ensures.entry in
    tied_scrub g.N.Naming.start core c.scrub.new.self c.self.inside.count c.add.new.desk c.args.pass.now.number c.in-Ok.entry c.self.invariant is e.0 e.1 e.2 c.in-Ok.ensures.quiet c.in-Ok.ensures.no_views c.add.ensures.knew.number c.add.ensures.desk

pub invariant_of-self-in-Err : goal.invariant_of-self-in-Err
invariant_of-self-in-Err g c =
    let core = c.self.inside.core in
    let is = subst (λ (v : DeskOf). next_action v.core.job (state v.core) ≡ act.Scrub) (sym c.self.view_is) c.requires in
    tied_stay g.N.Naming.start core c.scrub.new.self c.self.inside.count c.learn.new.desk c.self.invariant c.in-Err.ensures.err (going_open core c.self.invariant.driven (scrub_going core is)) c.learn.ensures.desk
