use Rattle.std.proofs.Common.{◌≡◌, ◌⊎◌, ◌≤◌, [], ℕ, List, length, sym, ap, ◌∙◌, subst}
use Rattle.std.proofs.lemmas.List.{with_items_is}
use Rattle.std.proofs.lemmas.Result.{IfOk-weaker, on_err_weaker}
use Rattle.ro_event.specs.Views.{View}
use Rattle.ro_vote.specs.Verdict.{verdict_of}
use Rattle.ro_vote.specs.Votes.{verdict_by}
use Rattle.ro_core.specs.Seen.{IsOfMajority}
use Rattle.ro_core.specs.Fields.{Fields, core_in}
use Rattle.ro_core.specs.Runs.{fields_of, payload_by}
use Rattle.ro_core.proofs.Views.{viewed-holds, view-still, view-home, view-stopped, view-count}
use Rattle.ro_core.proofs.cores.Core.vote.Goals as goal

pub show-requires-clause-stopped : goal.show-requires-clause-stopped
show-requires-clause-stopped c = view-stopped (fields_of c.args.self.now) c.requires.holds c.args.thread c.requires.may

pub verdict-requires : goal.verdict-requires
verdict-requires c =
    let f : Fields = fields_of c.args.self.now in
    let items = with_items_is c.args.self.now.views c.show.new.views (c.show.ensures.count ∙ c.as_mut_slice.ensures.len) in
    subst (λ (n : ℕ). n ≤ 5) (sym (ap length (c.as_slice.ensures.value ∙ items) ∙ c.show.ensures.count ∙ ap length c.as_mut_slice.ensures.value)) (view-count f c.requires.holds c.args.thread c.requires.may)

pub hold-requires : goal.hold-requires
hold-requires c =
    let f : Fields = fields_of c.args.self.now in
    let items = with_items_is c.args.self.now.views c.show.new.views (c.show.ensures.count ∙ c.as_mut_slice.ensures.len) in
    record {
      held = record {
        holds = viewed-holds f _ c.requires.holds (view-still f c.requires.holds c.args.thread c.requires.may) (ap length items ∙ c.show.ensures.count ∙ ap length c.as_mut_slice.ensures.value);
        may = c.requires.may;
        views_are = (items ∙ c.show.ensures.views f.job (core_in f).kernel (core_in f).replicas (view-home f c.requires.holds c.args.thread c.requires.may));
        verdict = ap verdict_of (sym c.as_slice.ensures.value) ∙ sym c.verdict.ensures.verdict ∙ ap verdict_by c.in-Some.is;
      };
    }

pub split-requires-clause-holds : goal.split-requires-clause-holds
split-requires-clause-holds c =
    let f : Fields = fields_of c.args.self.now in
    let items = with_items_is c.args.self.now.views c.show.new.views (c.show.ensures.count ∙ c.as_mut_slice.ensures.len) in
    viewed-holds f _ c.requires.holds (view-still f c.requires.holds c.args.thread c.requires.may) (ap length items ∙ c.show.ensures.count ∙ ap length c.as_mut_slice.ensures.value)

pub split-requires-clause-views : goal.split-requires-clause-views
split-requires-clause-views c =
    let f : Fields = fields_of c.args.self.now in
    let items = with_items_is c.args.self.now.views c.show.new.views (c.show.ensures.count ∙ c.as_mut_slice.ensures.len) in
    (items ∙ c.show.ensures.views f.job (core_in f).kernel (core_in f).replicas (view-home f c.requires.holds c.args.thread c.requires.may))

pub returns-in-Some-clause-entry : goal.returns-in-Some-clause-entry
returns-in-Some-clause-entry c = IfOk-weaker c.hold.result _ _ (λ voted x. (x.0, x.1, record { job = x.2.job; journal = x.2.journal })) c.hold.ensures.entry

pub returns-in-Some-clause-majority : goal.returns-in-Some-clause-majority
returns-in-Some-clause-majority c =
    let f : Fields = fields_of c.args.self.now in
    let items = with_items_is c.args.self.now.views c.show.new.views (c.show.ensures.count ∙ c.as_mut_slice.ensures.len) in
    let shown = (items ∙ c.show.ensures.views f.job (core_in f).kernel (core_in f).replicas (view-home f c.requires.holds c.args.thread c.requires.may)) in
    IfOk-weaker c.hold.result _ _ (λ voted x. subst (λ (vs : List View). (payload_by c.hold.new.self.views.items voted.writer ≡ []) ⊎ IsOfMajority vs (payload_by c.hold.new.self.views.items voted.writer)) shown x) c.hold.ensures.majority

pub returns-in-Some-clause-err : goal.returns-in-Some-clause-err
returns-in-Some-clause-err c =
    on_err_weaker c.hold.result (λ s. record { job = s.job; journal = s.journal; failed = s.failed; held = s.held; failures = s.failures; sure = s.sure }) c.hold.ensures.err

pub returns-in-None-clause-entry : goal.returns-in-None-clause-entry
returns-in-None-clause-entry c = (c.split.ensures.allowed, c.split.ensures.decides, record { job = c.split.ensures.appends.job; journal = c.split.ensures.appends.journal })

pub returns-in-None-clause-shown : goal.returns-in-None-clause-shown
returns-in-None-clause-shown c split =
    let f : Fields = fields_of c.args.self.now in
    let items = with_items_is c.args.self.now.views c.show.new.views (c.show.ensures.count ∙ c.as_mut_slice.ensures.len) in
    c.split.ensures.views ∙ (items ∙ c.show.ensures.views f.job (core_in f).kernel (core_in f).replicas (view-home f c.requires.holds c.args.thread c.requires.may))
