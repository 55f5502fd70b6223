use Rattle.std.proofs.Common.{◌≡◌, List, [], ◌∷◌, ◌++◌, true, length, refl, sym, ap, ◌∙◌, subst}
use Rattle.std.specs.Vec.{with_items}
use Rattle.std.specs.List.{list_all}
use Rattle.std.proofs.lemmas.List.{with_items_is}
use Rattle.ro_event.specs.Views.{View}
use Rattle.ro_journal.specs.declared.Entry.{Entry}
use Rattle.ro_journal.specs.declared.Entry.TheVariants.{End}
use Rattle.ro_journal.specs.declared.How.TheVariants.{Differ}
use Rattle.ro_legal.specs.Cooperative.{AgreeOn, IsAllowed, MayEnd, for_vote, replay}
use Rattle.ro_legal.specs.Choices.{DecidesVote}
use Rattle.ro_legal.proofs.Ordered.{vote-parts}
use Rattle.ro_coop_core.specs.declared.cores.Core.{Core as Run}
use Rattle.ro_coop_core.specs.declared.seats.Seat.{Seat}
use Rattle.ro_coop_core.specs.Seats.{AreHome, seat_stopped}
use Rattle.ro_coop_core.specs.Seen.{Appends, KeepsViews}
use Rattle.ro_coop_core.specs.Fields.{Fields, core_in}
use Rattle.ro_coop_core.specs.Runs.{fields_of, job_of, state_of, seen, payload_by, IsAgreed}
use Rattle.ro_coop_core.proofs.Concludes.{ended-wrote}
use Rattle.ro_coop_core.proofs.Views.{viewed-holds, view-still, view-home, view-stopped, shown-agreed, shown-unlike, always-on-ok}
use Rattle.ro_coop_core.proofs.Votes.{agreed-payload}
use Rattle.ro_coop_core.proofs.cores.Core.vote.Goals as goal

pub show_all-requires-clause-stopped : goal.show_all-requires-clause-stopped
show_all-requires-clause-stopped c =
    subst (λ (seats : List Seat). list_all (seat_stopped c.args.thread) seats ≡ true) (sym c.as_slice.ensures.value) (view-stopped (fields_of c.args.self.now) c.requires.holds c.args.thread c.requires.may)

pub agree-requires-clause-holds : goal.agree-requires-clause-holds
agree-requires-clause-holds c =
    let f : Fields = fields_of c.args.self.now in
    let items = with_items_is c.args.self.now.views c.show_all.new.views (c.show_all.ensures.count ∙ c.as_mut_slice.ensures.len) in
    viewed-holds f _ c.requires.holds (view-still f c.requires.holds c.args.thread c.requires.may) (ap length items ∙ c.show_all.ensures.count ∙ ap length c.as_mut_slice.ensures.value)

pub hold-requires : goal.hold-requires
hold-requires c =
    let f : Fields = fields_of c.args.self.now in
    let core = core_in f in
    let items = with_items_is c.args.self.now.views c.show_all.new.views (c.show_all.ensures.count ∙ c.as_mut_slice.ensures.len) in
    let shown = items ∙ c.show_all.ensures.views f.job core.kernel core.replicas core.sides (subst (AreHome f.job core.kernel core.replicas core.sides) (sym c.as_slice.ensures.value) (view-home f c.requires.holds c.args.thread c.requires.may)) in
    record { agreed = subst (λ (r : Run). (view : View) × IsAgreed (fields_of r) c.args.thread view) (sym c.agree.ensures.same) (shown-agreed f c.requires.holds c.args.thread c.requires.may _ (ap length items ∙ c.show_all.ensures.count ∙ ap length c.as_mut_slice.ensures.value) shown (c.agree.ensures.agree.0 c.if-agree.true)) }

pub returns-then-agree-clause-agreed : goal.returns-then-agree-clause-agreed
returns-then-agree-clause-agreed c =
    let f : Fields = fields_of c.args.self.now in
    let core = core_in f in
    let items = with_items_is c.args.self.now.views c.show_all.new.views (c.show_all.ensures.count ∙ c.as_mut_slice.ensures.len) in
    let shown = items ∙ c.show_all.ensures.views f.job core.kernel core.replicas core.sides (subst (AreHome f.job core.kernel core.replicas core.sides) (sym c.as_slice.ensures.value) (view-home f c.requires.holds c.args.thread c.requires.may)) in
    let agreed = shown-agreed f c.requires.holds c.args.thread c.requires.may _ (ap length items ∙ c.show_all.ensures.count ∙ ap length c.as_mut_slice.ensures.value) shown (c.agree.ensures.agree.0 c.if-agree.true) in
    always-on-ok c.hold.result _ (λ voted writes. (
      agreed.0,
      agreed.1.agreed,
      ap (λ (vs : List View). payload_by vs true) (c.hold.ensures.views ∙ ap (λ (r : Run). r.views.items) c.agree.ensures.same) ∙ agreed-payload _ c.args.thread agreed.0 agreed.1,
    ))

pub conclude-entry-requires-clause-views : goal.conclude-entry-requires-clause-views
conclude-entry-requires-clause-views c =
    let f : Fields = fields_of c.args.self.now in
    let core = core_in f in
    let items = with_items_is c.args.self.now.views c.show_all.new.views (c.show_all.ensures.count ∙ c.as_mut_slice.ensures.len) in
    let shown = items ∙ c.show_all.ensures.views f.job core.kernel core.replicas core.sides (subst (AreHome f.job core.kernel core.replicas core.sides) (sym c.as_slice.ensures.value) (view-home f c.requires.holds c.args.thread c.requires.may)) in
    let differ : (view : View) → AgreeOn f.job core c.args.thread view → ⊥ = shown-unlike f c.requires.holds c.args.thread c.requires.may _ c.agree.result shown c.agree.ensures.agree c.if-agree.false in
    subst (λ (r : Run). KeepsViews (job_of r) (r.journal.items ++ End Differ ∷ []) r.views.items) (sym c.agree.ensures.same)
    (λ ends. record { before = c.args.self.now.journal.items; journal_is = refl; thread = c.args.thread; may = c.requires.may; differ = differ; views_are = shown })

pub conclude-entry-requires-clause-allowed : goal.conclude-entry-requires-clause-allowed
conclude-entry-requires-clause-allowed c =
    let f : Fields = fields_of c.args.self.now in
    let core = core_in f in
    let items = with_items_is c.args.self.now.views c.show_all.new.views (c.show_all.ensures.count ∙ c.as_mut_slice.ensures.len) in
    let shown = items ∙ c.show_all.ensures.views f.job core.kernel core.replicas core.sides (subst (AreHome f.job core.kernel core.replicas core.sides) (sym c.as_slice.ensures.value) (view-home f c.requires.holds c.args.thread c.requires.may)) in
    let differ : (view : View) → AgreeOn f.job core c.args.thread view → ⊥ = shown-unlike f c.requires.holds c.args.thread c.requires.may _ c.agree.result shown c.agree.ensures.agree c.if-agree.false in
    subst (λ (r : Run). MayEnd (job_of r) (state_of r) Differ) (sym c.agree.ensures.same) (for_vote c.args.thread c.requires.may differ)

pub returns-clause-entry : goal.returns-clause-entry
returns-clause-entry c =
    let f : Fields = fields_of c.args.self.now in
    let core = core_in f in
    let items = with_items_is c.args.self.now.views c.show_all.new.views (c.show_all.ensures.count ∙ c.as_mut_slice.ensures.len) in
    let shown = items ∙ c.show_all.ensures.views f.job core.kernel core.replicas core.sides (subst (AreHome f.job core.kernel core.replicas core.sides) (sym c.as_slice.ensures.value) (view-home f c.requires.holds c.args.thread c.requires.may)) in
    let differ : (view : View) → AgreeOn f.job core c.args.thread view → ⊥ = shown-unlike f c.requires.holds c.args.thread c.requires.may _ c.agree.result shown c.agree.ensures.agree c.if-agree.false in
    let appends = subst (λ (r : Run). Appends (seen r) (seen c.conclude-entry.new.self) (End Differ)) c.agree.ensures.same c.conclude-entry.ensures.appends in
    subst (λ (e : Entry). IsAllowed f.job core e × DecidesVote f.job core c.args.thread e × Appends (seen c.args.self.now) (seen c.conclude-entry.new.self) e) (sym c.conclude-entry.ensures.entry) (
      ((vote-parts core c.args.thread c.requires.may).not_ended, for_vote c.args.thread c.requires.may differ),
      differ,
      record { job = appends.job; journal = appends.journal },
    )

pub returns-clause-wrote : goal.returns-clause-wrote
returns-clause-wrote c =
    let shown : Run = record c.args.self.now { views = with_items c.args.self.now.views c.show_all.new.views } in
    ended-wrote shown c.conclude-entry.new.self Differ (subst (λ (r : Run). Appends (seen r) (seen c.conclude-entry.new.self) (End Differ)) c.agree.ensures.same c.conclude-entry.ensures.appends)
    (c.conclude-entry.ensures.output ∙ ap (λ (r : Run). (replay (job_of r) r.journal.items).output) c.agree.ensures.same)

pub returns-clause-shown : goal.returns-clause-shown
returns-clause-shown c =
    let f : Fields = fields_of c.args.self.now in
    let core = core_in f in
    let items = with_items_is c.args.self.now.views c.show_all.new.views (c.show_all.ensures.count ∙ c.as_mut_slice.ensures.len) in
    let shown = items ∙ c.show_all.ensures.views f.job core.kernel core.replicas core.sides (subst (AreHome f.job core.kernel core.replicas core.sides) (sym c.as_slice.ensures.value) (view-home f c.requires.holds c.args.thread c.requires.may)) in
    λ ends. c.conclude-entry.ensures.views ∙ ap (λ (r : Run). r.views.items) c.agree.ensures.same ∙ shown
