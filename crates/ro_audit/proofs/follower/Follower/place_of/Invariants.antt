use Rattle.std.proofs.Common.{ℕ, ◌<◌}
use Rattle.ro_cores.specs.Cores.{left_by}
use Rattle.ro_audit.specs.Following.{Follows, Same, NotByThread}
use Rattle.ro_audit.proofs.follower.Follower.place_of.Given as goal

abbrev pub invariant-loop-thread : goal.invariant-loop-thread
invariant-loop-thread g l =
    g.C.RunCore.holds l.self.core × Follows (g.C.RunCore.seen l.self.core) l.self.lent.items (g.C.AuditCore.got_of l.self.got) l.self.output.items × Same (g.C.RunCore.seen l.fn.self.core) (g.C.RunCore.seen l.self.core)
    × ((thread : ℕ) → thread < l.thread → NotByThread (g.C.RunCore.seen l.fn.self.core).job (left_by (g.C.RunCore.seen l.fn.self.core)) l.how thread)
