use Rattle.std.proofs.Common.{ap, sym, ◌∙◌, subst}
use Rattle.ro_core.specs.Seen.{CoreOf, Appends}
use Rattle.ro_cores.specs.Cores.{left_by, Quiet}
use Rattle.ro_cores.specs.Loans.{MayReturn, entry_of}
use Rattle.ro_master.proofs.Failing.{quiet-same}
use Rattle.ro_core.proofs.Held.{with-old}
use Rattle.ro_master.proofs.Fresh.{cuts_none, fresh_more}
use Rattle.ro_master.proofs.sessions.Session.give_back.Goals as goal

pub give_back-requires-clause-returns : goal.give_back-requires-clause-returns
give_back-requires-clause-returns g c =
    subst (λ (v : CoreOf). MayReturn v.job v.journal (g.C.RunCore.back_of c.args.back)) (sym c.self.view_is) c.requires.returns

pub returns-clause-entry : goal.returns-clause-entry
returns-clause-entry g c =
    let a = c.give_back.ensures.entry in
    with-old (λ old new. Appends old new (entry_of (left_by old) (g.C.RunCore.back_of c.args.back))) c.self.view_is (record { job = a.job; journal = a.journal })

pub returns-clause-quiet : goal.returns-clause-quiet
returns-clause-quiet g c =
    with-old Quiet c.self.view_is
    (quiet-same (g.C.RunCore.seen c.self.inside.core) (g.C.RunCore.seen c.give_back.new.self) c.self.inside.failed (g.K.Sink.held c.self.inside.out) (g.K.Sink.failures c.self.inside.out) (g.K.Sink.sure c.self.inside.out) (ap (λ (v : CoreOf). v.failed) c.self.view_is ∙ c.requires.calm) c.give_back.ensures.output)

pub invariant_of-self : goal.invariant_of-self
invariant_of-self g c =
    let core = g.C.RunCore.seen c.self.inside.core in
    let new = g.C.RunCore.seen c.give_back.new.self in
    let calm = ap (λ (v : CoreOf). v.failed) c.self.view_is ∙ c.requires.calm in
    (c.give_back.ensures.holds, cuts_none new c.self.inside.failed calm, fresh_more core new (entry_of (left_by core) (g.C.RunCore.back_of c.args.back)) c.self.inside.failed (g.K.Sink.failures c.self.inside.out) c.give_back.ensures.entry c.self.invariant.2)
