use Rattle.std.proofs.Common.{sym, subst}
use Rattle.ro_journal.specs.declared.Entry.TheVariants.{Take}
use Rattle.ro_legal.specs.Legal.{MayTake}
use Rattle.ro_core.specs.Seen.{CoreOf, Appends}
use Rattle.ro_cores.specs.Cores.{state, Quiet, HasRoom}
use Rattle.ro_cores.specs.Loans.{IsLent}
use Rattle.ro_master.proofs.Failing.{take-calm, room-without, quiet-same}
use Rattle.ro_core.proofs.Held.{with-old}
use Rattle.ro_master.proofs.Fresh.{cuts_none, fresh_more}
use Rattle.ro_master.proofs.sessions.Session.lend.Goals as goal

pub lend-requires-clause-may : goal.lend-requires-clause-may
lend-requires-clause-may g c =
    (take-calm (g.C.RunCore.seen c.self.inside.core) c.self.inside.failed c.args.lease (subst (λ (v : CoreOf). MayTake v.job (state v) c.args.lease) (sym c.self.view_is) c.requires.may)).1

pub lend-requires-clause-room : goal.lend-requires-clause-room
lend-requires-clause-room g c =
    room-without (g.C.RunCore.seen c.self.inside.core) c.self.inside.failed (g.K.Sink.held c.self.inside.out) (g.K.Sink.failures c.self.inside.out) (g.K.Sink.sure c.self.inside.out) (subst HasRoom (sym c.self.view_is) c.requires.room)

pub returns-clause-entry : goal.returns-clause-entry
returns-clause-entry g c =
    let a = c.lend.ensures.entry in
    with-old (λ old new. Appends old new (Take c.args.lease)) c.self.view_is (record { job = a.job; journal = a.journal })

pub returns-clause-quiet : goal.returns-clause-quiet
returns-clause-quiet g c =
    let core = g.C.RunCore.seen c.self.inside.core in
    let calm = (take-calm core c.self.inside.failed c.args.lease (subst (λ (v : CoreOf). MayTake v.job (state v) c.args.lease) (sym c.self.view_is) c.requires.may)).0 in
    with-old Quiet c.self.view_is (quiet-same core (g.C.RunCore.seen c.lend.new.self) c.self.inside.failed (g.K.Sink.held c.self.inside.out) (g.K.Sink.failures c.self.inside.out) (g.K.Sink.sure c.self.inside.out) calm c.lend.ensures.output)

pub returns-clause-lent : goal.returns-clause-lent
returns-clause-lent g c = subst (λ (v : CoreOf). IsLent v.job v.journal (g.C.RunCore.lent_of c.lend.result)) c.self.view_is c.lend.ensures.lent

pub invariant_of-self : goal.invariant_of-self
invariant_of-self g c =
    let core = g.C.RunCore.seen c.self.inside.core in
    let new = g.C.RunCore.seen c.lend.new.self in
    let calm = (take-calm core c.self.inside.failed c.args.lease (subst (λ (v : CoreOf). MayTake v.job (state v) c.args.lease) (sym c.self.view_is) c.requires.may)).0 in
    (c.lend.ensures.holds, cuts_none new c.self.inside.failed calm, fresh_more core new (Take c.args.lease) c.self.inside.failed (g.K.Sink.failures c.self.inside.out) c.lend.ensures.entry c.self.invariant.2)
