use Rattle.std.proofs.Common.{◌≡◌, ◌≢◌, ◌⊎◌, [], Some, None, ap, ◌∙◌, subst}
use Rattle.std.specs.Prelude.{IsSome}
use Rattle.ro_journal.specs.declared.How.TheVariants.{Differ, NoMajority}
use Rattle.ro_journal.specs.Plan.{outcome_of}
use Rattle.ro_core.specs.Seen.{CoreOf}
use Rattle.ro_cores.specs.Cores.{KeepsViews}
use Rattle.ro_master.proofs.Calm.{failed_open}
use Rattle.ro_master.proofs.sessions.Session.finish.Goals as goal

pub returns-clause-how : goal.returns-clause-how
returns-clause-how g c = c.finish-image.ensures.how ∙ ap (λ (v : CoreOf). outcome_of v.journal) c.self.view_is

pub returns-clause-views : goal.returns-clause-views
returns-clause-views g c = subst (λ (v : CoreOf). KeepsViews v.job v.journal c.finish-image.result.views.items) c.self.view_is c.finish-image.ensures.views

pub returns-clause-kept : goal.returns-clause-kept
returns-clause-kept g c =
    subst (λ (v : CoreOf). (outcome_of v.journal ≡ Some Differ) ⊎ (outcome_of v.journal ≡ Some NoMajority) → c.finish-image.result.views.items ≡ v.views) c.self.view_is c.finish-image.ensures.kept

pub returns-clause-no_views : goal.returns-clause-no_views
returns-clause-no_views g c =
    subst (λ (v : CoreOf). outcome_of v.journal ≢ Some Differ → outcome_of v.journal ≢ Some NoMajority → c.finish-image.result.views.items ≡ []) c.self.view_is c.finish-image.ensures.no_views

pub returns-clause-open : goal.returns-clause-open
returns-clause-open g c = subst (λ (v : CoreOf). IsSome v.failed → outcome_of v.journal ≡ None) c.self.view_is (failed_open (g.C.RunCore.seen c.self.inside.core) c.entries-entries.ensures.fit c.entries-entries.ensures.legal c.self.inside.failed c.self.invariant.1)
