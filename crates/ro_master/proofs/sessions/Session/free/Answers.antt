use Rattle.std.proofs.Common.{ap, ◌∙◌, subst}
use Rattle.std.proofs.lemmas.Result.{IfOk-weaker, on_ok_weaker, on_err_weaker}
use Rattle.ro_legal.specs.Core.{Core, may_free}
use Rattle.ro_legal.specs.Rules.{IsAllowed, DecidesFree}
use Rattle.ro_core.specs.Seen.{CoreOf, Appends, Stays}
use Rattle.ro_cores.specs.Cores.{state, Quiet}
use Rattle.ro_master.proofs.Failing.{at-state, free-calm, quiet-same, stays-with}
use Rattle.ro_core.proofs.Held.{with-old}
use Rattle.ro_cores.specs.Cores.{left_by}
use Rattle.ro_master.proofs.Fresh.{cuts_none, fresh_after}
use Rattle.ro_master.proofs.sessions.Session.free.Goals as goal

pub free-requires-clause-may : goal.free-requires-clause-may
free-requires-clause-may g c = (free-calm (g.C.RunCore.seen c.self.inside.core) c.self.inside.failed c.args.thread (ap (λ (v : CoreOf). may_free v.job (state v) c.args.thread) c.self.view_is ∙ c.requires)).1

pub returns-clause-entry : goal.returns-clause-entry
returns-clause-entry g c =
    let core = g.C.RunCore.seen c.self.inside.core in
    let failed = c.self.inside.failed in
    let calm = (free-calm core failed c.args.thread (ap (λ (v : CoreOf). may_free v.job (state v) c.args.thread) c.self.view_is ∙ c.requires)).0 in
    IfOk-weaker c.free.result _ _ (λ entry x. (
      subst (λ (v : CoreOf). IsAllowed v.job (state v) entry) c.self.view_is (at-state core failed (λ (k : Core). IsAllowed core.job k entry) calm x.0),
      subst (λ (v : CoreOf). DecidesFree v.job (state v) c.args.thread entry) c.self.view_is (at-state core failed (λ (k : Core). DecidesFree core.job k c.args.thread entry) calm x.1),
      with-old (λ old new. Appends old new entry) c.self.view_is (record { job = x.2.job; journal = x.2.journal }),
    )) c.free.ensures.entry

pub returns-clause-quiet : goal.returns-clause-quiet
returns-clause-quiet g c =
    let core = g.C.RunCore.seen c.self.inside.core in
    let calm = (free-calm core c.self.inside.failed c.args.thread (ap (λ (v : CoreOf). may_free v.job (state v) c.args.thread) c.self.view_is ∙ c.requires)).0 in
    on_ok_weaker c.free.result (λ x. with-old Quiet c.self.view_is (quiet-same core (g.C.RunCore.seen c.free.new.self) c.self.inside.failed (g.K.Sink.held c.self.inside.out) (g.K.Sink.failures c.self.inside.out) (g.K.Sink.sure c.self.inside.out) calm x)) c.free.ensures.output

pub returns-clause-err : goal.returns-clause-err
returns-clause-err g c = on_err_weaker c.free.result (λ s. with-old Stays c.self.view_is (stays-with (g.C.RunCore.seen c.self.inside.core) (g.C.RunCore.seen c.free.new.self) s c.self.inside.failed (g.K.Sink.held c.self.inside.out) (g.K.Sink.failures c.self.inside.out) (g.K.Sink.sure c.self.inside.out))) c.free.ensures.err

pub invariant_of-self : goal.invariant_of-self
invariant_of-self g c =
    let core = g.C.RunCore.seen c.self.inside.core in
    let new = g.C.RunCore.seen c.free.new.self in
    let calm = (free-calm core c.self.inside.failed c.args.thread (ap (λ (v : CoreOf). may_free v.job (state v) c.args.thread) c.self.view_is ∙ c.requires)).0 in
    (c.free.ensures.holds, cuts_none new c.self.inside.failed calm, fresh_after core new (IsAllowed core.job (left_by core)) (DecidesFree core.job (left_by core) c.args.thread) c.self.inside.failed (g.K.Sink.failures c.self.inside.out) c.free.result c.free.ensures.entry c.free.ensures.err c.self.invariant.2)
