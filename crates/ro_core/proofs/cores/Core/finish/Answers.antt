use Rattle.std.proofs.Common.{◌≡◌, ◌⊎◌, List, Option, Some, sym, ◌∙◌, subst}
use Rattle.ro_journal.specs.declared.How.{How}
use Rattle.ro_journal.specs.declared.How.TheVariants.{Differ, NoMajority}
use Rattle.ro_event.specs.Views.{View}
use Rattle.ro_core.specs.Seen.{ShowsViews, EndsByScrub}
use Rattle.ro_core.specs.Runs.{fields_of, job_of}
use Rattle.ro_core.proofs.Held.{fields-outcome}
use Rattle.ro_core.proofs.cores.Core.finish.Goals as goal

pub returns-clause-how : goal.returns-clause-how
returns-clause-how c h = fields-outcome (fields_of c.args.self) h

pub returns-clause-views : goal.returns-clause-views
returns-clause-views c h split =
    let is = sym (fields-outcome (fields_of c.args.self) h) in
    subst (λ (vs : List View). ShowsViews (job_of c.args.self) c.args.self.journal.items vs ⊎ EndsByScrub (job_of c.args.self) c.args.self.journal.items vs) (sym (c.kept_views.ensures.split (subst (λ (o : Option How). (o ≡ Some Differ) ⊎ (o ≡ Some NoMajority)) is split)))
    (h.views_kept split)

pub returns-clause-kept : goal.returns-clause-kept
returns-clause-kept c h split = c.kept_views.ensures.split (subst (λ (o : Option How). (o ≡ Some Differ) ⊎ (o ≡ Some NoMajority)) (sym (fields-outcome (fields_of c.args.self) h)) split)

pub returns-clause-no_views : goal.returns-clause-no_views
returns-clause-no_views c h differ majority =
    let is = sym (fields-outcome (fields_of c.args.self) h) in
    c.kept_views.ensures.no_split (λ e. differ (is ∙ e)) (λ e. majority (is ∙ e))
