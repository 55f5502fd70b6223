use Rattle.std.proofs.Common.{sym, ◌∙◌, true≢false}
use Rattle.ro_audit.proofs.Nexts.{next-with, odd-here, still-odd, none-odd}
use Rattle.ro_audit.proofs.follower.Follower.first_odd.Goals as goal

pub returns-then-is_some-clause-next : goal.returns-then-is_some-clause-next
returns-then-is_some-clause-next g c =
    let core = g.C.RunCore.seen c.args.self.now.core in
    still-odd core.job core.journal c.args.entry.now c.args.before (sym c.is_some.ensures ∙ c.if-is_some.true) c.requires.next

pub returns-then-is_next-clause-next : goal.returns-then-is_next-clause-next
returns-then-is_next-clause-next g c =
    let core = g.C.RunCore.seen c.args.self.now.core in
    next-with core.job core.journal c.args.entry.now (none-odd core.job core.journal c.args.entry.now c.args.before (sym c.is_some.ensures ∙ c.if-is_some.false) c.requires.next) (c.is_next.ensures.next.0 c.if-is_next.true)

pub returns-clause-next : goal.returns-clause-next
returns-clause-next g c =
    let core = g.C.RunCore.seen c.args.self.now.core in
    odd-here core.job core.journal c.args.entry.now c.args.place c.requires.place (none-odd core.job core.journal c.args.entry.now c.args.before (sym c.is_some.ensures ∙ c.if-is_some.false) c.requires.next)
    (λ next. true≢false (sym (c.is_next.ensures.next.1 next) ∙ c.if-is_next.false))
