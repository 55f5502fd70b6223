use Rattle.std.proofs.Common.{refl, sym, subst}
use Rattle.ro_master.specs.Passes.{PassOf}
use Rattle.ro_master.specs.Desks.{HoldsLent, KnowsSeen}
use Rattle.ro_master.proofs.masters.MasterPost.run.Goals as goal

pub returns-clause-back : goal.returns-clause-back
returns-clause-back g c =
    let job = g.N.Naming.start.job in
    let same = sym c.run.ensures.pass in
    record {
      may = record {
        lent = c.args.lease;
        holds = subst (λ (p : PassOf). HoldsLent job p c.args.lease) same c.requires.pass.1.0;
        old = c.args.held.now.share;
        new = c.run.new.self.share;
        gives = c.run.ensures.gives;
      };
      new_is = refl;
      knew = subst (λ (p : PassOf). KnowsSeen job p c.args.held.now.share) same c.requires.pass.1.1;
    }
