use Rattle.std.proofs.Common.{◌≡◌, ◌⊎◌, ◌<◌, [], ℕ, List, length, refl, ap, ◌∙◌, subst}
use Rattle.std.specs.Prelude.{IfSome}
use Rattle.ro_legal.specs.Core.{Core, may_vote, views_of}
use Rattle.ro_legal.specs.Rules.{IsAllowed, DecidesVote}
use Rattle.ro_core.specs.Seen.{CoreOf, Appends, Stays, IsOfMajority}
use Rattle.ro_cores.specs.Cores.{left_by, state, Sends}
use Rattle.ro_master.specs.Sessions.{bytes_by}
use Rattle.ro_master.proofs.Failing.{at-state, vote-calm, stays-with}
use Rattle.ro_core.proofs.Held.{with-old}
use Rattle.ro_core.proofs.Views.{always-on-err}
use Rattle.ro_master.proofs.Offered.{offers_written}
use Rattle.ro_master.proofs.Sinking.{front-majority, Took, took-sends}
use Rattle.ro_master.proofs.Fresh.{vote_open, cuts_wrote, part_taken}
use Rattle.ro_master.proofs.sessions.Session.vote.Goals as goal

pub vote-requires-clause-may : goal.vote-requires-clause-may
vote-requires-clause-may g c = (vote-calm (g.C.RunCore.seen c.self.inside.core) c.self.inside.failed c.args.thread (ap (λ (v : CoreOf). may_vote (state v) c.args.thread) c.self.view_is ∙ c.requires)).1

pub returns-clause-entry : goal.returns-clause-entry
returns-clause-entry g c =
    let f = g.C.RunCore.seen c.self.inside.core in
    let failed = c.self.inside.failed in
    let calm = (vote-calm f failed c.args.thread (ap (λ (v : CoreOf). may_vote (state v) c.args.thread) c.self.view_is ∙ c.requires)).0 in
    let entry = c.in_ok-voted.voted.0 in
    let x = c.in_ok-voted.ensures.entry in (
      subst (λ (v : CoreOf). IsAllowed v.job (state v) entry) c.self.view_is (at-state f failed (λ (k : Core). IsAllowed f.job k entry) calm x.0),
      subst (λ (v : CoreOf). DecidesVote v.job (state v) c.args.thread entry) c.self.view_is (at-state f failed (λ (k : Core). DecidesVote f.job k c.args.thread entry) calm x.1),
      with-old (λ old new. Appends old new entry) c.self.view_is (record { job = x.2.job; journal = x.2.journal }),
    )

pub returns-clause-sends : goal.returns-clause-sends
returns-clause-sends g c =
    let f = g.C.RunCore.seen c.self.inside.core in
    let calm = (vote-calm f c.self.inside.failed c.args.thread (ap (λ (v : CoreOf). may_vote (state v) c.args.thread) c.self.view_is ∙ c.requires)).0 in
    let bytes = g.C.RunCore.payload_of c.vote.new.self c.in_ok-voted.voted.1 in
    let failed = c.send-failed.result in
    let held = g.K.Sink.held c.self.inside.out in
    let held' = g.K.Sink.held c.send-failed.new.out in
    let failures = g.K.Sink.failures c.self.inside.out in
    let failures' = g.K.Sink.failures c.send-failed.new.out in
    let sure = g.K.Sink.sure c.self.inside.out in
    let sure' = g.K.Sink.sure c.send-failed.new.out in
    let told : Took c.payload-payload.result.now failed held held' failures failures' sure sure' = record { whole = c.send-failed.ensures.whole; part = c.send-failed.ensures.part; calm = c.send-failed.ensures.calm; grow = c.send-failed.ensures.failures; left = c.send-failed.ensures.sure; full = c.send-failed.ensures.full } in
    let took = subst (λ (xs : List ℕ). Took xs failed held held' failures failures' sure sure') c.payload-payload.ensures told in
    let wrote = c.in_ok-voted.ensures.wrote in
    let majority = c.in_ok-voted.ensures.majority in (
      bytes_by failed bytes,
      with-old (λ old new. Sends old new (bytes_by failed bytes)) c.self.view_is
          (took-sends f (g.C.RunCore.seen c.vote.new.self) bytes c.self.inside.failed failed held held' failures failures' sure sure' calm wrote (offers_written (g.C.RunCore.seen c.vote.new.self) c.entries-entries.ensures.legal (left_by f).output bytes wrote) took),
      subst (λ (v : CoreOf). (bytes_by failed bytes ≡ []) ⊎ IsOfMajority (views_of v.job (state v) c.args.thread) (bytes_by failed bytes)) c.self.view_is
          (at-state f c.self.inside.failed (λ (k : Core). (bytes_by failed bytes ≡ []) ⊎ IsOfMajority (views_of f.job k c.args.thread) (bytes_by failed bytes)) calm (front-majority _ failed bytes majority)),
    )

pub returns-clause-shown : goal.returns-clause-shown
returns-clause-shown g c split =
    let f = g.C.RunCore.seen c.self.inside.core in
    let calm = (vote-calm f c.self.inside.failed c.args.thread (ap (λ (v : CoreOf). may_vote (state v) c.args.thread) c.self.view_is ∙ c.requires)).0 in
    c.in_ok-voted.ensures.shown split ∙ at-state f c.self.inside.failed (λ (k : Core). views_of f.job (left_by f) c.args.thread ≡ views_of f.job k c.args.thread) calm refl ∙ ap (λ (v : CoreOf). views_of v.job (state v) c.args.thread) c.self.view_is

pub returns-in_err-voted-clause-err : goal.returns-in_err-voted-clause-err
returns-in_err-voted-clause-err g c = always-on-err c.from_residual.result (with-old Stays c.self.view_is (stays-with (g.C.RunCore.seen c.self.inside.core) (g.C.RunCore.seen c.vote.new.self) c.in_err-voted.ensures.err c.self.inside.failed (g.K.Sink.held c.self.inside.out) (g.K.Sink.failures c.self.inside.out) (g.K.Sink.sure c.self.inside.out)))

pub send-failed-requires-clause-unfailed : goal.send-failed-requires-clause-unfailed
send-failed-requires-clause-unfailed g c =
    let f = g.C.RunCore.seen c.self.inside.core in
    let may = vote-calm f c.self.inside.failed c.args.thread (ap (λ (v : CoreOf). may_vote (state v) c.args.thread) c.self.view_is ∙ c.requires) in
    c.self.invariant.2 may.0 (vote_open f c.args.thread c.entries-before.ensures.legal may.1)

pub invariant_of-self-2 : goal.invariant_of-self-2
invariant_of-self-2 g c =
    let f = g.C.RunCore.seen c.self.inside.core in
    let new = g.C.RunCore.seen c.vote.new.self in
    let may = vote-calm f c.self.inside.failed c.args.thread (ap (λ (v : CoreOf). may_vote (state v) c.args.thread) c.self.view_is ∙ c.requires) in
    let zero = c.self.invariant.2 may.0 (vote_open f c.args.thread c.entries-before.ensures.legal may.1) in
    let bytes = g.C.RunCore.payload_of c.vote.new.self c.in_ok-voted.voted.1 in
    let failed = c.send-failed.result in
    let part = subst (λ (xs : List ℕ). IfSome failed (λ n. n < length xs)) c.payload-payload.ensures (part_taken c.payload-payload.result.now failed (g.K.Sink.held c.self.inside.out) (g.K.Sink.held c.send-failed.new.out) (g.K.Sink.failures c.self.inside.out) (g.K.Sink.failures c.send-failed.new.out) c.send-failed.ensures.part) in
    (c.vote.ensures.holds, cuts_wrote new (left_by f).output bytes failed c.in_ok-voted.ensures.wrote part, λ none open_. c.send-failed.ensures.calm none ∙ zero)
