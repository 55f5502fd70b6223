use Rattle.std.proofs.Common.{List, sym, ◌∙◌, subst}
use Rattle.ro_event.specs.Views.{View}
use Rattle.ro_coop_core.specs.Seen.{ShowsViews}
use Rattle.ro_coop_core.specs.Runs.{fields_of, job_of}
use Rattle.ro_coop_core.proofs.Held.{fields-outcome}
use Rattle.ro_coop_core.proofs.cores.Core.finish.Goals as goal

pub returns-clause-how : goal.returns-clause-how
returns-clause-how c h = fields-outcome (fields_of c.args.self) h

pub returns-clause-views : goal.returns-clause-views
returns-clause-views c h differ =
    let is = fields-outcome (fields_of c.args.self) h in
    subst (λ (vs : List View). ShowsViews (job_of c.args.self) c.args.self.journal.items vs) (sym (c.kept_views.ensures.differ (is ∙ differ)))
    (h.views_kept differ)

pub returns-clause-kept : goal.returns-clause-kept
returns-clause-kept c h differ = c.kept_views.ensures.differ (fields-outcome (fields_of c.args.self) h ∙ differ)

pub returns-clause-no_views : goal.returns-clause-no_views
returns-clause-no_views c h differ =
    let is = sym (fields-outcome (fields_of c.args.self) h) in
    c.kept_views.ensures.others (λ e. differ (is ∙ e))
