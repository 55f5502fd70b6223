use Rattle.std.proofs.Common.{sym, ◌∙◌, subst, true≢false}
use Rattle.ro_journal.specs.declared.Entry.TheVariants.{End}
use Rattle.ro_legal.specs.Core.{Job, Core}
use Rattle.ro_legal.specs.Rules.{EndsScrub}
use Rattle.ro_cores.specs.Cores.{left_by}
use Rattle.ro_audit.specs.declared.follower.InPlace.{InPlace}
use Rattle.ro_audit.specs.Following.{Follows, IsInPlace}
use Rattle.ro_audit.proofs.Ends.{no-such-end}
use Rattle.ro_audit.proofs.Refused.{end-refused, scrub-end-decides}
use Rattle.ro_audit.proofs.Steps.{end-follows, same-new, same-answers}
use Rattle.ro_audit.proofs.follower.Follower.end.Goals as goal

pub returns-then-ends_now-clause-followed : goal.returns-then-ends_now-clause-followed
returns-then-ends_now-clause-followed g c =
    let x = c.end.ensures in
    let new = g.C.RunCore.seen c.end.new.self in
    let rows = g.C.AuditCore.got_of c.args.self.now.got in (
      x.allowed,
      x.appends,
      subst (Follows new c.args.self.now.lent.items rows) (sym c.truncate.ensures.items)
          (end-follows (g.C.RunCore.seen c.args.self.now.core) new c.args.how c.args.self.now.lent.items rows c.args.self.now.output.items c.bytes.result c.requires.follows x.allowed x.appends c.bytes.ensures),
    )

pub scrub-requires-clause-decides : goal.scrub-requires-clause-decides
scrub-requires-clause-decides g c =
    let core = g.C.RunCore.seen c.args.self.now.core in
    let new = g.C.RunCore.seen c.place_of.new.self.core in
    scrub-end-decides new.job (left_by new) c.args.how
    (same-new (λ (j : Job) (k : Core). EndsScrub j k c.args.how) core new c.place_of.ensures.same
    (subst (λ (place : InPlace). IsInPlace core.job (left_by core) c.args.how place) c.in-Some-OfScrub.field-0-is c.in-Some-OfScrub.ensures.some).1)

pub returns-in-Some-OfVote-clause-followed : goal.returns-in-Some-OfVote-clause-followed
returns-in-Some-OfVote-clause-followed g c =
    let same = c.place_of.ensures.same in
    same-answers (g.C.RunCore.seen c.args.self.now.core) (g.C.RunCore.seen c.place_of.new.self.core) same.job same.journal (End c.args.how) c.vote.result _ _ _ _ c.vote.ensures.followed

pub returns-in-Some-OfFree-clause-followed : goal.returns-in-Some-OfFree-clause-followed
returns-in-Some-OfFree-clause-followed g c =
    let same = c.place_of.ensures.same in
    same-answers (g.C.RunCore.seen c.args.self.now.core) (g.C.RunCore.seen c.place_of.new.self.core) same.job same.journal (End c.args.how) c.free.result _ _ _ _ c.free.ensures.followed

pub returns-in-None-clause-followed : goal.returns-in-None-clause-followed
returns-in-None-clause-followed g c =
    let core = g.C.RunCore.seen c.args.self.now.core in
    end-refused core.job core.journal c.args.how c.requires.going
    (no-such-end core.job core.journal c.args.how c.requires.follows.fit c.requires.follows.legal
    (λ e. true≢false (sym (c.ends_now.ensures.1 e) ∙ c.if-ends_now.false)) (c.place_of.ensures.none c.in-None.is))
