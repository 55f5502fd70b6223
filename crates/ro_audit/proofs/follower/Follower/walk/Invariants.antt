use Rattle.std.proofs.Common.{◌≡◌, take}
use Rattle.ro_audit.specs.Audits.{NextUpTo}
use Rattle.ro_audit.specs.Following.{Follows}
use Rattle.ro_audit.proofs.follower.Follower.walk.Given as goal

abbrev pub invariant-loop-place : goal.invariant-loop-place
invariant-loop-place g l =
    g.C.RunCore.holds l.self.core × Follows (g.C.RunCore.seen l.self.core) l.self.lent.items (g.C.AuditCore.got_of l.self.got) l.self.output.items × ((g.C.RunCore.seen l.self.core).job ≡ (g.C.RunCore.seen l.fn.self.core).job)
    × ((g.C.RunCore.seen l.self.core).journal ≡ take l.place l.journal) × NextUpTo (g.C.RunCore.seen l.self.core).job (g.C.RunCore.seen l.self.core).journal l.odd
