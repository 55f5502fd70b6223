use Rattle.std.proofs.Common.{◌≡◌, refl, sym, ap, ◌∙◌, subst}
use Rattle.ro_journal.specs.declared.Entry.TheVariants.{End}
use Rattle.ro_legal.specs.declared.actions.Action.TheVariants.{End as DoEnd}
use Rattle.ro_legal.specs.Action.{next_action}
use Rattle.ro_legal.specs.Rules.{IsAllowed, IsNext, output_of, replay}
use Rattle.ro_core.specs.Seen.{CoreOf, Appends}
use Rattle.ro_cores.specs.Cores.{state, Quiet}
use Rattle.ro_master.proofs.Failing.{end-comes, end-may, end-sends}
use Rattle.ro_core.proofs.Held.{with-old}
use Rattle.ro_master.proofs.Fresh.{fresh_end}
use Rattle.ro_master.proofs.sessions.Session.end.Goals as goal

pub end-requires-clause-now : goal.end-requires-clause-now
end-requires-clause-now g c =
    end-may (g.C.RunCore.seen c.self.inside.core) c.self.inside.failed c.entries-entries.ensures.fit c.entries-entries.ensures.legal c.self.invariant.1 c.args.how (subst (λ (v : CoreOf). next_action v.job (state v) ≡ DoEnd c.args.how) (sym c.self.view_is) c.requires)

pub returns-clause-entry : goal.returns-clause-entry
returns-clause-entry g c =
    let how = c.args.how in
    let a = c.end.ensures.appends in
    let ends = subst (λ (v : CoreOf). next_action v.job (state v) ≡ DoEnd how) (sym c.self.view_is) c.requires in (
      subst (λ (v : CoreOf). IsAllowed v.job (replay v.job v.journal) (End how)) c.self.view_is c.end.ensures.allowed,
      subst (λ (v : CoreOf). IsNext v.job (replay v.job v.journal) (End how)) c.self.view_is (c.end.ensures.next (end-comes (g.C.RunCore.seen c.self.inside.core) c.self.inside.failed c.entries-entries.ensures.fit c.entries-entries.ensures.legal c.self.invariant.1 how ends)),
      with-old (λ old new. Appends old new (End how)) c.self.view_is (record { job = a.job; journal = a.journal }),
    )

pub returns-clause-quiet : goal.returns-clause-quiet
returns-clause-quiet g c =
    let core = g.C.RunCore.seen c.self.inside.core in
    let a = c.end.ensures.appends in
    let ends = subst (λ (v : CoreOf). next_action v.job (state v) ≡ DoEnd c.args.how) (sym c.self.view_is) c.requires in
    with-old Quiet c.self.view_is (record {
      failed = refl;
      sent = ap (λ j. output_of j (g.C.RunCore.seen c.end.new.self).journal) a.job ∙ ap (output_of core.job) a.journal
          ∙ end-sends core c.self.inside.failed c.entries-entries.ensures.fit c.entries-entries.ensures.legal c.self.invariant.1 c.args.how ends;
      held = refl;
      failures = refl;
      sure = refl;
    })

pub invariant_of-self : goal.invariant_of-self
invariant_of-self g c =
    (c.end.ensures.holds, tt, fresh_end (g.C.RunCore.seen c.self.inside.core) (g.C.RunCore.seen c.end.new.self) c.args.how (g.K.Sink.failures c.self.inside.out) c.end.ensures.appends)
