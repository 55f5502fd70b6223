use Rattle.ro_audit.proofs.Steps.{free-followed}
use Rattle.ro_audit.proofs.follower.Follower.free.Goals as goal

pub returns-clause-followed : goal.returns-clause-followed
returns-clause-followed g c =
    let x = c.in_ok-came.ensures in
    free-followed (g.C.RunCore.seen c.args.self.now.core) (g.C.RunCore.seen c.free.new.self) c.args.entry.now c.in_ok-came.came c.unless_same.result c.args.self.now.lent.items (g.C.AuditCore.got_of c.args.self.now.got) c.args.self.now.output.items
    c.requires.follows c.unless_same.ensures x.entry.0 x.entry.2 c.args.thread c.requires.may c.requires.decides x.entry.1 x.output
