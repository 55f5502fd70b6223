use Rattle.std.proofs.Common.{sym, subst}
use Rattle.ro_audit.specs.Following.{Follows}
use Rattle.ro_audit.proofs.Steps.{opened}
use Rattle.ro_audit.proofs.follower.Follower.begin.Goals as goal

pub returns-clause-follows : goal.returns-clause-follows
returns-clause-follows g c =
    let core = g.C.RunCore.seen c.in_ok-core.core in
    subst (Follows core c.in-Ok.lent.items (g.C.AuditCore.got_of c.nothing_got.result)) (sym c.new.ensures.items)
    (opened _ core c.in-Ok.lent.items (g.C.AuditCore.got_of c.nothing_got.result) (record { settings = c.requires.settings; faults = c.requires.faults }) c.requires.fit c.in_ok-core.ensures.job c.in_ok-core.ensures.journal
    c.in-Ok.ensures.count c.in-Ok.ensures.vacant (c.nothing_got.ensures _))
