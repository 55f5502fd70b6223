use Rattle.std.proofs.Common.{◌≡◌, ◌++◌, ◌∷◌, [], ℕ, Bool, true, List, get_or, refl, sym, ap, ◌∙◌, subst, arith}
use Rattle.std.specs.Prelude.{vec_len}
use Rattle.std.specs.Option.{option_and_then}
use Rattle.ro_journal.specs.declared.Entry.{Entry}
use Rattle.ro_journal.specs.declared.Entry.TheVariants.{Vote, End}
use Rattle.ro_journal.specs.declared.How.TheVariants.{Limit}
use Rattle.ro_journal.specs.declared.losers.Lost.TheVariants.{Nobody}
use Rattle.ro_event.specs.Views.{View}
use Rattle.ro_serving.specs.Happening.{IsCause}
use Rattle.ro_kernel.specs.Kernel.{lives_on}
use Rattle.ro_kernel.specs.State.{State}
use Rattle.ro_legal.specs.Core.{Core, may_vote}
use Rattle.ro_legal.specs.Event.{Event}
use Rattle.ro_legal.specs.Cooperative.{IsAllowed, MayVote, PassesLimit, for_vote}
use Rattle.ro_legal.specs.Choices.{DecidesVote}
use Rattle.ro_legal.proofs.TogetherEvents.{event-steps-few}
use Rattle.ro_coop_core.specs.declared.cores.Core.{Core as Run}
use Rattle.ro_coop_core.specs.declared.voting.Voted.{Voted}
use Rattle.ro_coop_core.specs.Seen.{Appends}
use Rattle.ro_coop_core.specs.Fields.{Fields, core_in, Holds}
use Rattle.ro_coop_core.specs.Runs.{fields_of, job_of, state_of, seen, payload_by, LastWrote}
use Rattle.ro_coop_core.specs.Amid.{newcomer_of}
use Rattle.ro_coop_core.proofs.Concludes.{ended-wrote}
use Rattle.ro_coop_core.proofs.Makes.{agreed-room, same-state}
use Rattle.ro_coop_core.proofs.Lapsing.{came-back}
use Rattle.ro_coop_core.proofs.Serving.{before-room, job-with, lapse-setup, lapse-live, lapse-steps, lapse-limit, lapse-amid, lapse-failed, lapse-room, lapse-event}
use Rattle.ro_coop_core.proofs.Votes.{hold-alone, hold-live, hold-not-over, hold-within, hold-steps, hold-first, hold-there, hold-allowed, hold-passes, hold-can}
use Rattle.ro_coop_core.proofs.cores.Core.hold.Goals as goal

pub index-requires : goal.index-requires
index-requires c =
    let v = agreed-room (fields_of c.args.self.now) (fields_of c.prepare.new.self) c.args.thread c.requires.agreed.0 c.requires.agreed.1 c.prepare.ensures.makes in
    omega (arith, hold-within (fields_of c.prepare.new.self) c.args.thread c.requires.agreed.0 v, c.prepare.new.self.views.ok.0)

pub index-requires-2 : goal.index-requires-2
index-requires-2 c =
    let v = agreed-room (fields_of c.args.self.now) (fields_of c.prepare.new.self) c.args.thread c.requires.agreed.0 c.requires.agreed.1 c.prepare.ensures.makes in
    omega (arith, ap (λ (x : Run). vec_len x.views) c.lapse-reservation.ensures.core, hold-within (fields_of c.prepare.new.self) c.args.thread c.requires.agreed.0 v, c.prepare.new.self.views.ok.0)

pub overflow_add-self : goal.overflow_add-self
overflow_add-self c =
    let v = agreed-room (fields_of c.args.self.now) (fields_of c.prepare.new.self) c.args.thread c.requires.agreed.0 c.requires.agreed.1 c.prepare.ensures.makes in
    let steps = ap (λ (x : Run). x.steps) c.lapse-reservation.ensures.core in
    let most = hold-steps (fields_of c.prepare.new.self) c.args.thread c.requires.agreed.0 v in
    let few = event-steps-few c.of-coming.result.did in
    let next = c.steps-steps.ensures in
    omega arith

pub stop_at_limit-requires : goal.stop_at_limit-requires
stop_at_limit-requires c =
    let before = c.prepare.new.self in
    let f : Fields = fields_of before in
    let lapse = c.lapse-reservation.new.self in
    let is = c.lapse-reservation.ensures.core in
    let view = c.requires.agreed.0 in
    let v = agreed-room (fields_of c.args.self.now) f c.args.thread view c.requires.agreed.1 c.prepare.ensures.makes in
    let alone = hold-alone f c.args.thread view v in
    let next = c.steps-steps.result in
    let first = hold-first f c.args.thread view v c.index-2.result.now (c.index-2.ensures ∙ ap (λ (x : Run). get_or x.views.items 0 c.index-2.result.now) is) in
    let did = ap (λ (e : Event). e.did) (sym (lapse-event before lapse c.args.thread v.holds alone is view c.index-2.result.now first)) ∙ c.of-coming.ensures.did in
    let back = came-back before lapse c.revive.new.self c.args.thread c.lapse-reservation.result is c.lapse-reservation.ensures.was c.revive.ensures in
    let steps = lapse-steps before lapse c.args.thread v.holds alone is in
    let limit = lapse-limit before lapse c.args.thread v.holds alone is in
    let over = c.if-self-steps.true in
    let passes = hold-passes f c.args.thread view v c.of-coming.result.did next did c.steps-steps.ensures (omega arith) in
    record {
      holds = subst (λ (x : Run). Holds (fields_of x)) (sym back) v.holds;
      passes = subst (λ (x : Run). (t : ℕ) × (may_vote (state_of x) t ≡ true) × PassesLimit (job_of x) (state_of x) t x.steps next) (sym back) (c.args.thread, v.may, passes);
    }

pub returns-then-self-steps-clause-entry : goal.returns-then-self-steps-clause-entry
returns-then-self-steps-clause-entry c =
    let old : Fields = fields_of c.args.self.now in
    let before = c.prepare.new.self in
    let f : Fields = fields_of before in
    let m = c.prepare.ensures.makes in
    let lapse = c.lapse-reservation.new.self in
    let is = c.lapse-reservation.ensures.core in
    let view = c.requires.agreed.0 in
    let v = agreed-room old f c.args.thread view c.requires.agreed.1 m in
    let alone = hold-alone f c.args.thread view v in
    let next = c.steps-steps.result in
    let first = hold-first f c.args.thread view v c.index-2.result.now (c.index-2.ensures ∙ ap (λ (x : Run). get_or x.views.items 0 c.index-2.result.now) is) in
    let did = ap (λ (e : Event). e.did) (sym (lapse-event before lapse c.args.thread v.holds alone is view c.index-2.result.now first)) ∙ c.of-coming.ensures.did in
    let back = came-back before lapse c.revive.new.self c.args.thread c.lapse-reservation.result is c.lapse-reservation.ensures.was c.revive.ensures in
    let steps = lapse-steps before lapse c.args.thread v.holds alone is in
    let limit = lapse-limit before lapse c.args.thread v.holds alone is in
    let over = c.if-self-steps.true in
    let count : c.revive.new.self.steps ≡ before.steps = ap (λ (x : Run). x.steps) back in
    let passes = before-room old f m (λ j k. PassesLimit j k c.args.thread c.revive.new.self.steps next) (subst (λ (n : ℕ). PassesLimit f.job (core_in f) c.args.thread n next) (sym count) (hold-passes f c.args.thread view v c.of-coming.result.did next did c.steps-steps.ensures (omega arith))) in
    subst (λ (e : Entry). IsAllowed old.job (core_in old) e × DecidesVote old.job (core_in old) c.args.thread e × Appends (seen c.args.self.now) (seen c.stop_at_limit.new.self) e) (sym (ap (λ (x : Voted). x.entry) c.stop_at_limit.ensures.voted)) (
      (hold-not-over old c.args.thread view c.requires.agreed.1, for_vote c.args.thread c.requires.agreed.1.may passes),
      passes,
      record {
        job = c.stop_at_limit.ensures.appends.job ∙ ap job_of back ∙ m.job;
        journal = c.stop_at_limit.ensures.appends.journal ∙ ap (λ (x : Run). x.journal.items ++ End (Limit c.revive.new.self.steps next) ∷ []) back ∙ ap (λ (js : List Entry). js ++ End (Limit c.revive.new.self.steps next) ∷ []) m.journal;
      },
    )

pub returns-then-self-steps-clause-wrote : goal.returns-then-self-steps-clause-wrote
returns-then-self-steps-clause-wrote c =
    let before = c.prepare.new.self in
    let m = c.prepare.ensures.makes in
    let back = came-back before c.lapse-reservation.new.self c.revive.new.self c.args.thread c.lapse-reservation.result c.lapse-reservation.ensures.core c.lapse-reservation.ensures.was c.revive.ensures in
    let output = ap (λ (x : Run). (state_of x).output) back ∙ ap (λ (k : Core). k.output) (same-state (fields_of c.args.self.now) (fields_of before) m) in
    subst (λ (b : Bool). LastWrote (fields_of c.stop_at_limit.new.self) (state_of c.args.self.now).output (payload_by c.stop_at_limit.new.self.views.items b)) (sym (ap (λ (x : Voted). x.writes) c.stop_at_limit.ensures.voted))
    (subst (λ (xs : List ℕ). LastWrote (fields_of c.stop_at_limit.new.self) xs []) output
    (ended-wrote c.revive.new.self c.stop_at_limit.new.self (Limit c.revive.new.self.steps c.steps-steps.result) c.stop_at_limit.ensures.appends c.stop_at_limit.ensures.output))

pub happen-requires : goal.happen-requires
happen-requires c =
    let before = c.prepare.new.self in
    let v = agreed-room (fields_of c.args.self.now) (fields_of before) c.args.thread c.requires.agreed.0 c.requires.agreed.1 c.prepare.ensures.makes in
    lapse-live before c.lapse-reservation.new.self c.args.thread v.holds (hold-alone (fields_of before) c.args.thread c.requires.agreed.0 v) c.lapse-reservation.ensures.core (hold-live (fields_of before) c.args.thread c.requires.agreed.0 v)

pub revive-requires-in-Err : goal.revive-requires-in-Err
revive-requires-in-Err c =
    let before = c.prepare.new.self in
    let v = agreed-room (fields_of c.args.self.now) (fields_of before) c.args.thread c.requires.agreed.0 c.requires.agreed.1 c.prepare.ensures.makes in
    ap (λ (k : State). lives_on k.kernel c.args.thread) c.in-Err.ensures.err
    ∙ lapse-live before c.lapse-reservation.new.self c.args.thread v.holds (hold-alone (fields_of before) c.args.thread c.requires.agreed.0 v) c.lapse-reservation.ensures.core (hold-live (fields_of before) c.args.thread c.requires.agreed.0 v)

pub returns-in-Err-clause-holds : goal.returns-in-Err-clause-holds
returns-in-Err-clause-holds c =
    let before = c.prepare.new.self in
    let lapse = c.lapse-reservation.new.self in
    let failed : Run = record lapse { kernel = c.happen.new.kernel } in
    let view = c.requires.agreed.0 in
    let v = agreed-room (fields_of c.args.self.now) (fields_of before) c.args.thread view c.requires.agreed.1 c.prepare.ensures.makes in
    let alone = hold-alone (fields_of before) c.args.thread view v in
    let same = lapse-failed before lapse c.args.thread v.holds alone c.lapse-reservation.ensures.core c.happen.new.kernel c.in-Err.ensures.err in
    let back = came-back before failed c.revive-in-Err.new.self c.args.thread c.lapse-reservation.result (same ∙ c.lapse-reservation.ensures.core) c.lapse-reservation.ensures.was c.revive-in-Err.ensures in
    subst (λ (x : Run). Holds (fields_of x)) (sym back) v.holds

pub occur-requires : goal.occur-requires
occur-requires c =
    let before = c.prepare.new.self in
    let f : Fields = fields_of before in
    let lapse = c.lapse-reservation.new.self in
    let is = c.lapse-reservation.ensures.core in
    let view = c.requires.agreed.0 in
    let v = agreed-room (fields_of c.args.self.now) f c.args.thread view c.requires.agreed.1 c.prepare.ensures.makes in
    let alone = hold-alone f c.args.thread view v in
    let first = hold-first f c.args.thread view v c.index-2.result.now (c.index-2.ensures ∙ ap (λ (x : Run). get_or x.views.items 0 c.index-2.result.now) is) in
    let did = ap (λ (e : Event). e.did) (sym (lapse-event before lapse c.args.thread v.holds alone is view c.index-2.result.now first)) ∙ c.of-coming.ensures.did in
    let caused = subst (λ (w : View). IsCause lapse.kernel.setup lapse.kernel.kernel c.args.thread w.stop w.payload c.of-coming.result.did c.of-coming.result.cause) first c.of-coming.ensures.cause in
    let steps = lapse-steps before lapse c.args.thread v.holds alone is in
    let limit = lapse-limit before lapse c.args.thread v.holds alone is in
    let under = c.if-self-steps.false in
    let r : Run = record lapse { kernel = c.happen.new.kernel } in
    record {
      can = hold-can before r c.args.thread view v c.happen.new.event c.of-coming.result.did c.since-count.result c.steps-steps.result c.newcomer-newcomer.result
          (sym (lapse-event before lapse c.args.thread v.holds alone is view view refl) ∙ c.in-Ok.ensures.event view.stop view.payload caused)
          did (c.since-count.ensures ∙ ap (λ (w : View). w.since) (hold-first f c.args.thread view v c.index.result.now c.index.ensures)) c.steps-steps.ensures (omega arith)
          (lapse-amid before lapse c.args.thread v.holds alone is c.happen.new.kernel) (c.happen.ensures.setup ∙ lapse-setup before lapse c.args.thread v.holds alone is)
          (c.newcomer-newcomer.ensures ∙ ap (option_and_then (λ (w : View). newcomer_of before.cooperates before.kernel.kernel.owners w.stop)) (hold-there f c.args.thread view v))
          (lapse-room before lapse c.args.thread v.holds alone is c.happen.new.event.effect.range c.in-Ok.ensures.room) c.in_ok-prepare.ensures.spared c.in_ok-prepare.ensures.places;
    }

pub returns-clause-entry : goal.returns-clause-entry
returns-clause-entry c =
    let old : Fields = fields_of c.args.self.now in
    let before = c.prepare.new.self in
    let f : Fields = fields_of before in
    let m = c.prepare.ensures.makes in
    let lapse = c.lapse-reservation.new.self in
    let is = c.lapse-reservation.ensures.core in
    let view = c.requires.agreed.0 in
    let v = agreed-room old f c.args.thread view c.requires.agreed.1 m in
    let alone = hold-alone f c.args.thread view v in
    let first = hold-first f c.args.thread view v c.index-2.result.now (c.index-2.ensures ∙ ap (λ (x : Run). get_or x.views.items 0 c.index-2.result.now) is) in
    let did = ap (λ (e : Event). e.did) (sym (lapse-event before lapse c.args.thread v.holds alone is view c.index-2.result.now first)) ∙ c.of-coming.ensures.did in
    let steps = lapse-steps before lapse c.args.thread v.holds alone is in
    let limit = lapse-limit before lapse c.args.thread v.holds alone is in
    let under = c.if-self-steps.false in
    let kept = lapse-amid before lapse c.args.thread v.holds alone is c.happen.new.kernel in
    let setup = c.happen.ensures.setup ∙ lapse-setup before lapse c.args.thread v.holds alone is in
    let entry : Entry = Vote c.args.thread c.since-count.result 0 Nobody c.of-coming.result.did in (
      before-room old f m (λ j k. MayVote j k c.args.thread c.since-count.result 0 Nobody c.of-coming.result.did)
          (hold-allowed f c.args.thread view v c.of-coming.result.did c.since-count.result c.steps-steps.result did (c.since-count.ensures ∙ ap (λ (w : View). w.since) (hold-first f c.args.thread view v c.index.result.now c.index.ensures)) c.steps-steps.ensures (omega arith)),
      refl,
      record {
        job = c.occur.ensures.job ∙ ap job_of kept ∙ job-with before c.happen.new.kernel setup ∙ m.job;
        journal = c.occur.ensures.journal ∙ ap (λ (x : Run). x.journal.items ++ entry ∷ []) kept ∙ ap (λ (js : List Entry). js ++ entry ∷ []) m.journal;
      },
    )
