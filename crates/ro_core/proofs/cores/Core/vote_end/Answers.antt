use Rattle.std.proofs.Common.{◌≡◌, ◌≤◌, ℕ, List, Some, length, sym, ap, ◌∙◌, subst}
use Rattle.std.specs.Prelude.{◌↔◌}
use Rattle.std.specs.Vec.{with_items}
use Rattle.std.proofs.lemmas.List.{with_items_is}
use Rattle.ro_event.specs.Views.{View}
use Rattle.ro_journal.specs.declared.How.{How}
use Rattle.ro_vote.specs.Verdict.{Split, verdict_of}
use Rattle.ro_vote.specs.Votes.{verdict_by}
use Rattle.ro_core.specs.Fields.{Fields, core_in, split_end}
use Rattle.ro_legal.specs.Legal.{EndsVote}
use Rattle.ro_core.specs.Runs.{fields_of, state_of}
use Rattle.ro_core.proofs.Asked.{some-end}
use Rattle.ro_core.proofs.Splits.{split-ends}
use Rattle.ro_core.proofs.Views.{viewed-holds, view-still, view-home, view-stopped, view-count}
use Rattle.ro_core.proofs.cores.Core.vote_end.Goals as goal

pub show-requires-clause-stopped : goal.show-requires-clause-stopped
show-requires-clause-stopped c = view-stopped (fields_of c.args.self.now) c.requires.holds c.args.thread c.requires.may

pub verdict-requires : goal.verdict-requires
verdict-requires c =
    let f : Fields = fields_of c.args.self.now in
    let items = with_items_is c.args.self.now.views c.show.new.views (c.show.ensures.count ∙ c.as_mut_slice.ensures.len) in
    subst (λ (n : ℕ). n ≤ 5) (sym (ap length (c.as_slice.ensures.value ∙ items) ∙ c.show.ensures.count ∙ ap length c.as_mut_slice.ensures.value)) (view-count f c.requires.holds c.args.thread c.requires.may)

pub won_end-requires : goal.won_end-requires
won_end-requires c =
    let f : Fields = fields_of c.args.self.now in
    let items = with_items_is c.args.self.now.views c.show.new.views (c.show.ensures.count ∙ c.as_mut_slice.ensures.len) in
    record {
      held = record {
        holds = viewed-holds f _ c.requires.holds (view-still f c.requires.holds c.args.thread c.requires.may) (ap length items ∙ c.show.ensures.count ∙ ap length c.as_mut_slice.ensures.value);
        may = c.requires.may;
        views_are = (items ∙ c.show.ensures.views f.job (core_in f).kernel (core_in f).replicas (view-home f c.requires.holds c.args.thread c.requires.may));
        verdict = ap verdict_of (sym c.as_slice.ensures.value) ∙ sym c.verdict.ensures.verdict ∙ ap verdict_by c.in-Some.is;
      };
    }

pub returns-in-Some-clause-holds : goal.returns-in-Some-clause-holds
returns-in-Some-clause-holds c =
    let f : Fields = fields_of c.args.self.now in
    let items = with_items_is c.args.self.now.views c.show.new.views (c.show.ensures.count ∙ c.as_mut_slice.ensures.len) in
    viewed-holds f _ c.requires.holds (view-still f c.requires.holds c.args.thread c.requires.may) (ap length items ∙ c.show.ensures.count ∙ ap length c.as_mut_slice.ensures.value)

pub returns-in-None-clause-holds : goal.returns-in-None-clause-holds
returns-in-None-clause-holds c =
    let f : Fields = fields_of c.args.self.now in
    let items = with_items_is c.args.self.now.views c.show.new.views (c.show.ensures.count ∙ c.as_mut_slice.ensures.len) in
    viewed-holds f _ c.requires.holds (view-still f c.requires.holds c.args.thread c.requires.may) (ap length items ∙ c.show.ensures.count ∙ ap length c.as_mut_slice.ensures.value)

pub returns-in-None-clause-end : goal.returns-in-None-clause-end
returns-in-None-clause-end c other =
    let f : Fields = fields_of c.args.self.now in
    let items = with_items_is c.args.self.now.views c.show.new.views (c.show.ensures.count ∙ c.as_mut_slice.ensures.len) in
    let h = viewed-holds f _ c.requires.holds (view-still f c.requires.holds c.args.thread c.requires.may) (ap length items ∙ c.show.ensures.count ∙ ap length c.as_mut_slice.ensures.value) in
    let views = (items ∙ c.show.ensures.views f.job (core_in f).kernel (core_in f).replicas (view-home f c.requires.holds c.args.thread c.requires.may)) in
    let shown : List View = (with_items c.args.self.now.views c.show.new.views).items in
    let split : verdict_of shown ≡ Split = ap verdict_of (sym c.as_slice.ensures.value) ∙ sym c.verdict.ensures.verdict ∙ ap verdict_by c.in-None.is in
    let ends = split-ends (record f { views = shown }) h c.args.thread c.requires.may views split in
    let same : c.split_of.result ≡ split_end (length shown) =
    c.split_of.ensures ∙ ap split_end (c.len.ensures ∙ sym (ap length items ∙ (c.show.ensures.count ∙ c.as_mut_slice.ensures.len)))
    in
    subst (λ (x : How). (Some x ≡ Some other) ↔ EndsVote f.job (state_of c.args.self.now) c.args.thread other) (sym same) (some-end f.job (state_of c.args.self.now) c.args.thread (split_end (length shown)) ends other)
