use Rattle.std.proofs.Common.{sym, ◌∙◌, true≢false}
use Rattle.ro_legal.specs.declared.actions.Action.TheVariants as act
use Rattle.ro_cores.specs.Cores.{left_by}
use Rattle.ro_audit.proofs.Nexts.{end-nexts}
use Rattle.ro_audit.proofs.follower.Follower.ends_next.Goals as goal

pub returns-in-Vote-clause-next : goal.returns-in-Vote-clause-next
returns-in-Vote-clause-next g c =
    let core = g.C.RunCore.seen c.args.self.now.core in
    end-nexts core.job (left_by core) c.args.how (λ sunk. true≢false (sym (c.ends_sink.ensures.1 sunk) ∙ c.if-ends_sink.false)) (act.Vote c.in-Vote.thread) (sym c.next_action.ensures.next ∙ c.in-Vote.is) c.ends_vote.result c.ends_vote.ensures.ends

pub returns-in-Free-clause-next : goal.returns-in-Free-clause-next
returns-in-Free-clause-next g c =
    let core = g.C.RunCore.seen c.args.self.now.core in
    end-nexts core.job (left_by core) c.args.how (λ sunk. true≢false (sym (c.ends_sink.ensures.1 sunk) ∙ c.if-ends_sink.false)) (act.Free c.in-Free.thread) (sym c.next_action.ensures.next ∙ c.in-Free.is) c.ends_free.result c.ends_free.ensures

pub returns-in-Scrub-clause-next : goal.returns-in-Scrub-clause-next
returns-in-Scrub-clause-next g c =
    let core = g.C.RunCore.seen c.args.self.now.core in
    end-nexts core.job (left_by core) c.args.how (λ sunk. true≢false (sym (c.ends_sink.ensures.1 sunk) ∙ c.if-ends_sink.false)) act.Scrub (sym c.next_action.ensures.next ∙ c.in-Scrub.is) c.ends_scrub.result c.ends_scrub.ensures

pub returns-in-End-clause-next : goal.returns-in-End-clause-next
returns-in-End-clause-next g c =
    let core = g.C.RunCore.seen c.args.self.now.core in
    end-nexts core.job (left_by core) c.args.how (λ sunk. true≢false (sym (c.ends_sink.ensures.1 sunk) ∙ c.if-ends_sink.false)) (act.End c.in-End.due) (sym c.next_action.ensures.next ∙ c.in-End.is) c.is_same_how.result c.is_same_how.ensures
