use Rattle.std.proofs.Common.{◌≡◌, ℕ, Some, get_or, refl, sym, ap, ◌∙◌, subst, arith}
use Rattle.std.specs.Prelude.{◌↔◌, vec_len}
use Rattle.ro_journal.specs.declared.How.TheVariants.{Limit}
use Rattle.ro_journal.specs.declared.losers.Lost.TheVariants.{Nobody}
use Rattle.ro_legal.specs.Event.{Event}
use Rattle.ro_legal.specs.Cooperative.{EndsVote}
use Rattle.ro_legal.proofs.TogetherEvents.{event-steps-few}
use Rattle.ro_coop_core.specs.declared.cores.Core.{Core as Run}
use Rattle.ro_coop_core.specs.Fields.{Fields}
use Rattle.ro_coop_core.specs.Runs.{fields_of, state_of}
use Rattle.ro_coop_core.proofs.Asked.{some-end, none-ends}
use Rattle.ro_coop_core.proofs.Lapsing.{came-back}
use Rattle.ro_coop_core.proofs.Serving.{lapse-event}
use Rattle.ro_coop_core.proofs.Votes.{hold-alone, hold-within, hold-steps, hold-first, hold-allowed, hold-passes}
use Rattle.ro_coop_core.proofs.cores.Core.agreed_end.Goals as goal

pub index-requires : goal.index-requires
index-requires c =
    omega (arith, ap (λ (x : Run). vec_len x.views) c.lapse-reservation.ensures.core, hold-within (fields_of c.args.self.now) c.args.thread c.requires.agreed.0 c.requires.agreed.1, c.args.self.now.views.ok.0)

pub overflow_add-self : goal.overflow_add-self
overflow_add-self c =
    let back = came-back c.args.self.now c.lapse-reservation.new.self c.revive.new.self c.args.thread c.lapse-reservation.result c.lapse-reservation.ensures.core c.lapse-reservation.ensures.was c.revive.ensures in
    let steps = ap (λ (x : Run). x.steps) back in
    let most = hold-steps (fields_of c.args.self.now) c.args.thread c.requires.agreed.0 c.requires.agreed.1 in
    let few = event-steps-few c.of-coming.result.did in
    let next = c.steps-next.ensures in
    omega arith

pub returns-then-self-next-clause-same : goal.returns-then-self-next-clause-same
returns-then-self-next-clause-same c = came-back c.args.self.now c.lapse-reservation.new.self c.revive.new.self c.args.thread c.lapse-reservation.result c.lapse-reservation.ensures.core c.lapse-reservation.ensures.was c.revive.ensures

pub returns-then-self-next-clause-end : goal.returns-then-self-next-clause-end
returns-then-self-next-clause-end c other =
    let before = c.args.self.now in
    let f : Fields = fields_of before in
    let lapse = c.lapse-reservation.new.self in
    let is = c.lapse-reservation.ensures.core in
    let view = c.requires.agreed.0 in
    let v = c.requires.agreed.1 in
    let next = c.steps-next.result in
    let first = hold-first f c.args.thread view v c.index.result.now (c.index.ensures ∙ ap (λ (x : Run). get_or x.views.items 0 c.index.result.now) is) in
    let did = ap (λ (e : Event). e.did) (sym (lapse-event before lapse c.args.thread v.holds (hold-alone f c.args.thread view v) is view c.index.result.now first)) ∙ c.of-coming.ensures.did in
    let back = came-back before lapse c.revive.new.self c.args.thread c.lapse-reservation.result is c.lapse-reservation.ensures.was c.revive.ensures in
    let steps = ap (λ (x : Run). x.steps) back in
    let limit = ap (λ (x : Run). x.settings.limit) back in
    let over = c.if-self-next.true in
    let passes = hold-passes f c.args.thread view v c.of-coming.result.did next did c.steps-next.ensures (omega arith) in
    subst (λ (n : ℕ). (Some (Limit n next) ≡ Some other) ↔ EndsVote f.job (state_of before) c.args.thread other) (sym steps) (some-end f.job (state_of before) c.args.thread (Limit before.steps next) passes other)

pub returns-clause-same : goal.returns-clause-same
returns-clause-same c = came-back c.args.self.now c.lapse-reservation.new.self c.revive.new.self c.args.thread c.lapse-reservation.result c.lapse-reservation.ensures.core c.lapse-reservation.ensures.was c.revive.ensures

pub returns-clause-end : goal.returns-clause-end
returns-clause-end c other =
    let before = c.args.self.now in
    let f : Fields = fields_of before in
    let lapse = c.lapse-reservation.new.self in
    let is = c.lapse-reservation.ensures.core in
    let view = c.requires.agreed.0 in
    let v = c.requires.agreed.1 in
    let next = c.steps-next.result in
    let first = hold-first f c.args.thread view v c.index.result.now (c.index.ensures ∙ ap (λ (x : Run). get_or x.views.items 0 c.index.result.now) is) in
    let did = ap (λ (e : Event). e.did) (sym (lapse-event before lapse c.args.thread v.holds (hold-alone f c.args.thread view v) is view c.index.result.now first)) ∙ c.of-coming.ensures.did in
    let back = came-back before lapse c.revive.new.self c.args.thread c.lapse-reservation.result is c.lapse-reservation.ensures.was c.revive.ensures in
    let steps = ap (λ (x : Run). x.steps) back in
    let limit = ap (λ (x : Run). x.settings.limit) back in
    let under = c.if-self-next.false in
    none-ends f.job (state_of before) c.args.thread view.since 0 Nobody c.of-coming.result.did
    (hold-allowed f c.args.thread view v c.of-coming.result.did view.since next did refl c.steps-next.ensures (omega arith)) other
