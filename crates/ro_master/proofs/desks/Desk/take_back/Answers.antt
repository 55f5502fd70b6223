use Rattle.std.proofs.Common.{length, sym, ap, ◌∙◌, subst, arith}
use Rattle.ro_core.specs.Seen.{Appends}
use Rattle.ro_cores.specs.Cores.{left_by}
use Rattle.ro_cores.specs.Loans.{BackOf, MayReturn, entry_of}
use Rattle.ro_master.specs.Passes.{PassOf, CountOf, counted}
use Rattle.ro_master.proofs.Tying.{length-journal, put_calm, put_returns, tied_put}
use Rattle.ro_master.proofs.desks.Desk.take_back.Goals as goal

pub entry-entry-requires : goal.entry-entry-requires
entry-entry-requires g c =
    subst (MayReturn c.self.inside.core.job c.self.inside.core.journal) (sym c.into_inner-back.ensures)
    (put_returns g.N.Naming.start c.self.inside.core c.self.inside.count c.args.pass.now c.args.back c.self.invariant c.entries-entries.ensures.calm c.learn.ensures.knew c.requires)

pub add-requires : goal.add-requires
add-requires g c =
    let few = c.entries-entries.ensures.few in
    omega (arith, ap (λ (n : CountOf). length n.history) c.learn.ensures.desk, length-journal c.self.inside.count.history, ap length c.self.invariant.journal, few)

pub give_back-requires-clause-calm : goal.give_back-requires-clause-calm
give_back-requires-clause-calm g c = put_calm g.N.Naming.start c.self.inside.core c.self.inside.count c.args.pass.now c.args.back c.self.invariant c.entries-entries.ensures.calm c.learn.ensures.knew c.requires

pub give_back-requires-clause-returns : goal.give_back-requires-clause-returns
give_back-requires-clause-returns g c =
    subst (MayReturn c.self.inside.core.job c.self.inside.core.journal) (sym c.into_inner-back.ensures)
    (put_returns g.N.Naming.start c.self.inside.core c.self.inside.count c.args.pass.now c.args.back c.self.invariant c.entries-entries.ensures.calm c.learn.ensures.knew c.requires)

pub invariant_of-self : goal.invariant_of-self
invariant_of-self g c =
    tied_put g.N.Naming.start c.self.inside.core c.self.inside.count c.args.pass.now c.args.back c.self.invariant c.entries-entries.ensures.calm c.learn.ensures.knew c.requires c.give_back.new.self
    (subst (λ (b : BackOf). Appends c.self.inside.core c.give_back.new.self (entry_of (left_by c.self.inside.core) b)) c.into_inner-back.ensures c.give_back.ensures.entry) c.give_back.ensures.quiet c.add.new.desk
    (c.add.ensures.desk
    ∙ ap (λ (n : CountOf). counted n c.learn.new.self.number c.entry-entry.result) c.learn.ensures.desk
    ∙ ap (λ (q : PassOf). counted c.self.inside.count q.number c.entry-entry.result) c.learn.ensures.pass
    ∙ ap (counted c.self.inside.count c.args.pass.now.number) (c.entry-entry.ensures ∙ ap (entry_of (left_by c.self.inside.core)) c.into_inner-back.ensures))
