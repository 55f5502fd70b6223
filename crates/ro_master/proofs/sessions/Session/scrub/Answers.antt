use Rattle.std.proofs.Common.{ap, ◌∙◌, subst}
use Rattle.std.proofs.lemmas.Result.{IfOk-weaker, on_ok_weaker, on_err_weaker}
use Rattle.ro_legal.specs.Core.{Core}
use Rattle.ro_legal.specs.Action.{next_action}
use Rattle.ro_legal.specs.Rules.{IsAllowed, DecidesScrub}
use Rattle.ro_core.specs.Seen.{CoreOf, Appends, Stays}
use Rattle.ro_cores.specs.Cores.{state, Quiet}
use Rattle.ro_master.proofs.Failing.{at-state, scrub-calm, quiet-same, stays-with}
use Rattle.ro_core.proofs.Held.{with-old}
use Rattle.ro_cores.specs.Cores.{left_by}
use Rattle.ro_master.proofs.Fresh.{cuts_none, fresh_after}
use Rattle.ro_master.proofs.sessions.Session.scrub.Goals as goal

pub scrub-requires-clause-next : goal.scrub-requires-clause-next
scrub-requires-clause-next g c = (scrub-calm (g.C.RunCore.seen c.self.inside.core) c.self.inside.failed (ap (λ (v : CoreOf). next_action v.job (state v)) c.self.view_is ∙ c.requires)).1

pub returns-clause-entry : goal.returns-clause-entry
returns-clause-entry g c =
    let core = g.C.RunCore.seen c.self.inside.core in
    let failed = c.self.inside.failed in
    let calm = (scrub-calm core failed (ap (λ (v : CoreOf). next_action v.job (state v)) c.self.view_is ∙ c.requires)).0 in
    IfOk-weaker c.scrub.result _ _ (λ entry x. (
      subst (λ (v : CoreOf). IsAllowed v.job (state v) entry) c.self.view_is (at-state core failed (λ (k : Core). IsAllowed core.job k entry) calm x.0),
      subst (λ (v : CoreOf). DecidesScrub v.job (state v) entry) c.self.view_is (at-state core failed (λ (k : Core). DecidesScrub core.job k entry) calm x.1),
      with-old (λ old new. Appends old new entry) c.self.view_is (record { job = x.2.job; journal = x.2.journal }),
    )) c.scrub.ensures.entry

pub returns-clause-quiet : goal.returns-clause-quiet
returns-clause-quiet g c =
    let core = g.C.RunCore.seen c.self.inside.core in
    let calm = (scrub-calm core c.self.inside.failed (ap (λ (v : CoreOf). next_action v.job (state v)) c.self.view_is ∙ c.requires)).0 in
    on_ok_weaker c.scrub.result (λ x. with-old Quiet c.self.view_is (quiet-same core (g.C.RunCore.seen c.scrub.new.self) c.self.inside.failed (g.K.Sink.held c.self.inside.out) (g.K.Sink.failures c.self.inside.out) (g.K.Sink.sure c.self.inside.out) calm x)) c.scrub.ensures.output

pub returns-clause-err : goal.returns-clause-err
returns-clause-err g c = on_err_weaker c.scrub.result (λ s. with-old Stays c.self.view_is (stays-with (g.C.RunCore.seen c.self.inside.core) (g.C.RunCore.seen c.scrub.new.self) s c.self.inside.failed (g.K.Sink.held c.self.inside.out) (g.K.Sink.failures c.self.inside.out) (g.K.Sink.sure c.self.inside.out))) c.scrub.ensures.err

pub invariant_of-self : goal.invariant_of-self
invariant_of-self g c =
    let core = g.C.RunCore.seen c.self.inside.core in
    let new = g.C.RunCore.seen c.scrub.new.self in
    let calm = (scrub-calm core c.self.inside.failed (ap (λ (v : CoreOf). next_action v.job (state v)) c.self.view_is ∙ c.requires)).0 in
    (c.scrub.ensures.holds, cuts_none new c.self.inside.failed calm, fresh_after core new (IsAllowed core.job (left_by core)) (DecidesScrub core.job (left_by core)) c.self.inside.failed (g.K.Sink.failures c.self.inside.out) c.scrub.result c.scrub.ensures.entry c.scrub.ensures.err c.self.invariant.2)
