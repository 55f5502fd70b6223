use Rattle.std.proofs.Common.{◌≡◌, ◌↔◌, List, Some, true, length, sym, ap, ◌∙◌, subst}
use Rattle.std.specs.Vec.{with_items}
use Rattle.std.specs.List.{list_all}
use Rattle.std.proofs.lemmas.List.{with_items_is}
use Rattle.ro_event.specs.Views.{View}
use Rattle.ro_journal.specs.declared.How.{How}
use Rattle.ro_journal.specs.declared.How.TheVariants.{Differ}
use Rattle.ro_legal.specs.Cooperative.{AgreeOn, EndsVote}
use Rattle.ro_coop_core.specs.declared.cores.Core.{Core as Run}
use Rattle.ro_coop_core.specs.declared.seats.Seat.{Seat}
use Rattle.ro_coop_core.specs.Seats.{AreHome, seat_stopped}
use Rattle.ro_coop_core.specs.Fields.{Fields, core_in, Holds}
use Rattle.ro_coop_core.specs.Runs.{fields_of, job_of, state_of, IsAgreed}
use Rattle.ro_coop_core.proofs.Asked.{some-end}
use Rattle.ro_coop_core.proofs.Views.{viewed-holds, view-still, view-home, view-stopped, shown-agreed, shown-unlike}
use Rattle.ro_coop_core.proofs.cores.Core.vote_end.Goals as goal

pub show_all-requires-clause-stopped : goal.show_all-requires-clause-stopped
show_all-requires-clause-stopped c =
    subst (λ (seats : List Seat). list_all (seat_stopped c.args.thread) seats ≡ true) (sym c.as_slice.ensures.value) (view-stopped (fields_of c.args.self.now) c.requires.holds c.args.thread c.requires.may)

pub agree-requires-clause-holds : goal.agree-requires-clause-holds
agree-requires-clause-holds c =
    let f : Fields = fields_of c.args.self.now in
    let items = with_items_is c.args.self.now.views c.show_all.new.views (c.show_all.ensures.count ∙ c.as_mut_slice.ensures.len) in
    viewed-holds f _ c.requires.holds (view-still f c.requires.holds c.args.thread c.requires.may) (ap length items ∙ c.show_all.ensures.count ∙ ap length c.as_mut_slice.ensures.value)

pub agreed_end-requires : goal.agreed_end-requires
agreed_end-requires c =
    let f : Fields = fields_of c.args.self.now in
    let core = core_in f in
    let items = with_items_is c.args.self.now.views c.show_all.new.views (c.show_all.ensures.count ∙ c.as_mut_slice.ensures.len) in
    let shown = items ∙ c.show_all.ensures.views f.job core.kernel core.replicas core.sides (subst (AreHome f.job core.kernel core.replicas core.sides) (sym c.as_slice.ensures.value) (view-home f c.requires.holds c.args.thread c.requires.may)) in
    record { agreed = subst (λ (r : Run). (view : View) × IsAgreed (fields_of r) c.args.thread view) (sym c.agree.ensures.same) (shown-agreed f c.requires.holds c.args.thread c.requires.may _ (ap length items ∙ c.show_all.ensures.count ∙ ap length c.as_mut_slice.ensures.value) shown (c.agree.ensures.agree.0 c.if-agree.true)) }

pub returns-then-agree-clause-holds : goal.returns-then-agree-clause-holds
returns-then-agree-clause-holds c =
    let f : Fields = fields_of c.args.self.now in
    let items = with_items_is c.args.self.now.views c.show_all.new.views (c.show_all.ensures.count ∙ c.as_mut_slice.ensures.len) in
    subst (λ (r : Run). Holds (fields_of r)) (sym (c.agreed_end.ensures.same ∙ c.agree.ensures.same)) (viewed-holds f _ c.requires.holds (view-still f c.requires.holds c.args.thread c.requires.may) (ap length items ∙ c.show_all.ensures.count ∙ ap length c.as_mut_slice.ensures.value))

pub returns-then-agree-clause-end : goal.returns-then-agree-clause-end
returns-then-agree-clause-end c =
    subst (λ (r : Run). (how : How) → (c.agreed_end.result ≡ Some how) ↔ EndsVote (job_of r) (state_of r) c.args.thread how) c.agree.ensures.same c.agreed_end.ensures.end

pub returns-clause-holds : goal.returns-clause-holds
returns-clause-holds c =
    let f : Fields = fields_of c.args.self.now in
    let items = with_items_is c.args.self.now.views c.show_all.new.views (c.show_all.ensures.count ∙ c.as_mut_slice.ensures.len) in
    subst (λ (r : Run). Holds (fields_of r)) (sym c.agree.ensures.same) (viewed-holds f _ c.requires.holds (view-still f c.requires.holds c.args.thread c.requires.may) (ap length items ∙ c.show_all.ensures.count ∙ ap length c.as_mut_slice.ensures.value))

pub returns-clause-end : goal.returns-clause-end
returns-clause-end c other =
    let f : Fields = fields_of c.args.self.now in
    let core = core_in f in
    let items = with_items_is c.args.self.now.views c.show_all.new.views (c.show_all.ensures.count ∙ c.as_mut_slice.ensures.len) in
    let shown = items ∙ c.show_all.ensures.views f.job core.kernel core.replicas core.sides (subst (AreHome f.job core.kernel core.replicas core.sides) (sym c.as_slice.ensures.value) (view-home f c.requires.holds c.args.thread c.requires.may)) in
    let differ : (view : View) → AgreeOn f.job core c.args.thread view → ⊥ = shown-unlike f c.requires.holds c.args.thread c.requires.may _ c.agree.result shown c.agree.ensures.agree c.if-agree.false in
    some-end f.job core c.args.thread Differ differ other
