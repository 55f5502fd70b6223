use Rattle.std.proofs.Common.{Option, Some, get_or, refl, subst}
use Rattle.ro_journal.specs.Leases.{lease_to}
use Rattle.ro_journal.specs.declared.Entry.TheVariants.{Take}
use Rattle.ro_legal.specs.Core.{Job}
use Rattle.ro_audit.specs.declared.follower.Why.{Why}
use Rattle.ro_audit.specs.Audits.{FirstIllegal}
use Rattle.ro_audit.specs.Following.{Followed}
use Rattle.ro_audit.proofs.Steps.{same-followed}
use Rattle.ro_audit.proofs.Telling.{at-place, stopped, followed-whole}
use Rattle.ro_audit.proofs.follower.Follower.walk.Goals as goal

pub returns-in-Some-clause-walked : goal.returns-in-Some-clause-walked
returns-in-Some-clause-walked g c =
    let core = g.C.RunCore.seen c.loop-place.self.core in
    let mid = g.C.RunCore.seen c.first_odd-odd.new.self.core in
    let rows = g.C.AuditCore.got_of c.loop-place.self.got in
    let entry = get_or c.args.journal.now c.loop-place.place (Take (lease_to 0 0 0)) in
    let at = at-place core c.args.journal.now c.loop-place.place entry (Take (lease_to 0 0 0)) c.loop-place.invariant.3 c.loop-place-test.true refl in
    let same = c.first_odd-odd.ensures.same in
    let refused = subst (λ (o : Option Why). Followed mid entry o (g.C.RunCore.seen c.follow.new.self.core) c.follow.new.self.lent.items (g.C.AuditCore.got_of c.follow.new.self.got) c.follow.new.self.output.items) c.in-Some.is c.in_ok-why.ensures.followed in
    subst (λ (j : Job). FirstIllegal j c.args.journal.now c.loop-place.place c.in-Some.why) c.loop-place.invariant.2
    (stopped core c.loop-place.self.lent.items rows c.loop-place.self.output.items c.args.journal.now c.loop-place.place entry c.in-Some.why at c.loop-place.invariant.1
    (same-followed core mid same.job same.journal entry (Some c.in-Some.why) (g.C.RunCore.seen c.follow.new.self.core) c.follow.new.self.lent.items (g.C.AuditCore.got_of c.follow.new.self.got) c.follow.new.self.output.items refused))

pub returns-clause-walked : goal.returns-clause-walked
returns-clause-walked g c =
    let core = g.C.RunCore.seen c.loop-place.self.core in
    let rows = g.C.AuditCore.got_of c.loop-place.self.got in
    followed-whole core c.loop-place.self.lent.items rows c.loop-place.self.output.items (g.C.RunCore.seen c.args.self.now.core).job c.args.journal.now c.loop-place.place c.loop-place.odd c.loop-place.invariant.2 c.loop-place.invariant.1 c.loop-place.invariant.3 c.loop-place-test.false
    c.loop-place.invariant.4
