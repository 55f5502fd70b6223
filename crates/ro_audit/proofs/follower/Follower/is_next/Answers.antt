use Rattle.std.proofs.Common.{sym, subst}
use Rattle.std.specs.Prelude.{◌↔◌, IsTrue}
use Rattle.ro_journal.specs.declared.Entry.{Entry}
use Rattle.ro_legal.specs.Rules.{IsNext}
use Rattle.ro_cores.specs.Cores.{left_by}
use Rattle.ro_audit.proofs.Nexts.{scrub-nexts}
use Rattle.ro_audit.proofs.follower.Follower.is_next.Goals as goal

pub returns-in-Scrub-clause-next : goal.returns-in-Scrub-clause-next
returns-in-Scrub-clause-next g c =
    let core = g.C.RunCore.seen c.args.self.now.core in
    subst (λ (e : Entry). IsTrue c.comes-in-Scrub.result ↔ IsNext core.job (left_by core) e) (sym c.in-Scrub.is)
    (scrub-nexts core.job (left_by core) c.requires.follows.fit c.in-Scrub.won c.in-Scrub.lost c.comes-in-Scrub.result c.comes-in-Scrub.ensures)
