use Rattle.ro_core.proofs.Held.{holds-mapped}
use Rattle.std.proofs.Common.{◌≡◌, ◌+◌, ◌<◌, ◌++◌, ◌∷◌, [], ℕ, List, Option, length, refl, sym, ap, ◌∙◌, subst, arith}
use Rattle.std.specs.Prelude.{◌⊎◌, IfSome, slice_get}
use Rattle.ro_journal.specs.declared.How.TheVariants.{Limit}
use Rattle.ro_journal.specs.declared.Entry.{Entry}
use Rattle.ro_journal.specs.declared.Entry.TheVariants.{Vote}
use Rattle.ro_event.specs.Views.{View}
use Rattle.ro_kernel.specs.Kernel.{Setup}
use Rattle.ro_kernel.specs.State.{State}
use Rattle.ro_core.specs.declared.cores.Core.{Core as Run}
use Rattle.ro_legal.specs.Core.{Job}
use Rattle.ro_legal.specs.Event.{event_of}
use Rattle.ro_legal.specs.Legal.{IsAllowed, output_of}
use Rattle.ro_core.specs.Seen.{Appends, IsOfMajority}
use Rattle.ro_legal.specs.Decides.{DecidesVote}
use Rattle.ro_core.specs.Fields.{Fields, core_in}
use Rattle.ro_core.specs.Grouped.{AreMade}
use Rattle.ro_serving.specs.Happening.{IsCause}
use Rattle.ro_core.specs.Runs.{fields_of, job_of, state_of, payload_by, silent, CanOccur, LastWrote}
use Rattle.ro_core.proofs.Concludes.{ended-wrote}
use Rattle.ro_core.proofs.Held.{limit-keeps}
use Rattle.ro_core.proofs.Votes.{then-some, hold-within, hold-there, hold-steps, hold-goes, hold-not-over, hold-alone, hold-home, hold-made-all, hold-twins, hold-losers, seat-of, hold-over, hold-entry, hold-can, hold-writer, hold-majority, held-room, ready-stands}
use Rattle.ro_core.proofs.cores.Core.hold.Goals as goal

pub index-view-requires : goal.index-view-requires
index-view-requires c = omega (arith, hold-within (fields_of c.args.self.now) c.args.thread c.args.won.won c.args.won.lost c.requires.held, c.args.self.now.views.ok.0)

pub overflow_sub-self : goal.overflow_sub-self
overflow_sub-self c = hold-steps (fields_of c.args.self.now) c.args.thread c.args.won.won c.args.won.lost c.requires.held

pub conclude-entry-requires-clause-holds : goal.conclude-entry-requires-clause-holds
conclude-entry-requires-clause-holds c = (c.args.self.now.views.items, c.requires.held.holds)

pub conclude-entry-requires-clause-allowed : goal.conclude-entry-requires-clause-allowed
conclude-entry-requires-clause-allowed c =
    let f : Fields = fields_of c.args.self.now in
    let view = c.index-view.result.now in
    let low = hold-steps f c.args.thread c.args.won.won c.args.won.lost c.requires.held in
    let over = c.if-next-self.true in
    (hold-over f c.args.thread c.args.won.won c.args.won.lost c.requires.held view (hold-there f c.args.thread c.args.won.won c.args.won.lost c.requires.held view c.index-view.ensures) c.of-coming.result.did (c.from.result + c.steps.result)
    c.of-coming.ensures.did
    (let a = c.since-count.ensures in let b = c.from.ensures in let d = c.steps.ensures in omega arith) (omega arith)).0

pub conclude-entry-requires-clause-views : goal.conclude-entry-requires-clause-views
conclude-entry-requires-clause-views c =
    let f : Fields = fields_of c.args.self.now in
    limit-keeps f c.requires.held.holds (hold-goes f c.args.thread c.args.won.won c.args.won.lost c.requires.held).not_ended f.steps (c.from.result + c.steps.result)

pub returns-then-next-self-clause-entry : goal.returns-then-next-self-clause-entry
returns-then-next-self-clause-entry c =
    let f : Fields = fields_of c.args.self.now in
    let view = c.index-view.result.now in
    let low = hold-steps f c.args.thread c.args.won.won c.args.won.lost c.requires.held in
    let over = c.if-next-self.true in
    let ends = hold-over f c.args.thread c.args.won.won c.args.won.lost c.requires.held view (hold-there f c.args.thread c.args.won.won c.args.won.lost c.requires.held view c.index-view.ensures) c.of-coming.result.did (c.from.result + c.steps.result)
    c.of-coming.ensures.did
    (let a = c.since-count.ensures in let b = c.from.ensures in let d = c.steps.ensures in omega arith) (omega arith)
    in
    subst (λ (e : Entry). IsAllowed f.job (state_of c.args.self.now) e × DecidesVote f.job (state_of c.args.self.now) c.args.thread e × Appends (silent c.args.self.now) (silent c.conclude-entry.new.self) e) (sym c.conclude-entry.ensures.entry)
    ((hold-not-over f c.args.thread c.args.won.won c.args.won.lost c.requires.held, ends.0), ends.1, c.conclude-entry.ensures.appends)

pub returns-then-next-self-clause-wrote : goal.returns-then-next-self-clause-wrote
returns-then-next-self-clause-wrote c = ended-wrote c.args.self.now c.conclude-entry.new.self (Limit c.args.self.now.steps (c.from.result + c.steps.result)) c.conclude-entry.ensures.appends c.conclude-entry.ensures.output

pub heal-requires-clause-home : goal.heal-requires-clause-home
heal-requires-clause-home c =
    let m = c.prepare.ensures.makes in
    let alone = m.leases ∙ hold-alone (fields_of c.args.self.now) c.args.thread c.args.won.won c.args.won.lost c.requires.held in
    (job_of c.prepare.new.self, (core_in (fields_of c.prepare.new.self)).kernel, (core_in (fields_of c.prepare.new.self)).replicas, ready-stands c.prepare.new.self m.holds alone)

pub heal-requires-clause-won : goal.heal-requires-clause-won
heal-requires-clause-won c =
    let f = fields_of c.prepare.new.self in
    let v = held-room (fields_of c.args.self.now) f c.args.thread c.args.won.won c.args.won.lost c.requires.held c.prepare.ensures.makes in
    seat-of f c.args.thread c.args.won.won c.args.won.lost v f.seats (hold-home f c.args.thread c.args.won.won c.args.won.lost v) c.args.won.won (hold-within f c.args.thread c.args.won.won c.args.won.lost v)

pub heal-requires-clause-lost : goal.heal-requires-clause-lost
heal-requires-clause-lost c =
    let f = fields_of c.prepare.new.self in
    let v = held-room (fields_of c.args.self.now) f c.args.thread c.args.won.won c.args.won.lost c.requires.held c.prepare.ensures.makes in
    hold-losers f c.args.thread c.args.won.won c.args.won.lost v f.seats (hold-home f c.args.thread c.args.won.won c.args.won.lost v)

pub heal-requires-clause-twins : goal.heal-requires-clause-twins
heal-requires-clause-twins c =
    let f = fields_of c.prepare.new.self in
    let v = held-room (fields_of c.args.self.now) f c.args.thread c.args.won.won c.args.won.lost c.requires.held c.prepare.ensures.makes in
    hold-twins f c.args.thread c.args.won.won c.args.won.lost v f.seats (hold-home f c.args.thread c.args.won.won c.args.won.lost v)

pub occur-requires : goal.occur-requires
occur-requires c =
    let old : Fields = fields_of c.args.self.now in
    let f : Fields = fields_of c.prepare.new.self in
    let m = c.prepare.ensures.makes in
    let v = held-room old f c.args.thread c.args.won.won c.args.won.lost c.requires.held m in
    let view = c.index-view.result.now in
    let there = ap (λ (vs : List View). slice_get vs c.args.won.won) m.views ∙ hold-there old c.args.thread c.args.won.won c.args.won.lost c.requires.held view c.index-view.ensures in
    let low = hold-steps old c.args.thread c.args.won.won c.args.won.lost c.requires.held in
    let under = c.if-next-self.false in
    let limit : f.job.settings.limit ≡ old.job.settings.limit = ap (λ (j : Job). j.settings.limit) m.job in
    let steps = m.steps in
    let setup = c.happen.ensures.setup in
    let r : Run = record c.prepare.new.self { seats = c.heal.new.self; kernel = c.happen.new.kernel } in
    let caused = subst (λ (k : State). IsCause k.setup k.kernel c.args.thread view.stop view.payload c.of-coming.result.did c.of-coming.result.cause) (sym m.kernel) c.of-coming.ensures.cause in
    let made = subst (λ (n : ℕ). AreMade n (core_in f).replicas) (sym c.made-threads.ensures.made) (hold-made-all f c.args.thread c.args.won.won c.args.won.lost v) in
    record {
      can = subst (λ (w : Option ℕ). CanOccur r (record { thread = c.args.thread; event = c.happen.new.event; entry = Vote c.args.thread c.since-count.result c.args.won.won c.args.won.lost c.of-coming.result.did; steps = c.from.result + c.steps.result; writer = w; threads = c.made-threads.result })) (sym (c.then_some-writer.ensures ∙ then-some c.happen.new.event.writes c.args.won.won))
          (hold-can f c.args.thread c.args.won.won c.args.won.lost v view there r c.happen.new.event c.of-coming.result.did c.since-count.result (c.from.result + c.steps.result) c.made-threads.result
          ((c.in_ok-happen.ensures.event) view.stop view.payload caused)
          (ap (λ (k : State). (event_of k.setup k.kernel c.args.thread view.stop view.payload).did) m.kernel ∙ c.of-coming.ensures.did)
          c.since-count.ensures (let a = c.since-count.ensures in let b = c.from.ensures in let d = c.steps.ensures in omega arith) (omega arith)
          (record {
            job = ap (λ (x : Setup). record { program = record { image = c.prepare.new.self.image; input = x.input }; faults = c.prepare.new.self.faults.items; settings = c.prepare.new.self.settings }) setup;
            journal = refl;
            leases = refl;
            lent = refl;
            wishes = refl;
            lanes = refl;
            setup = setup;
            blocked = refl;
            unblocked = refl;
            steps = refl;
            scrubbed = refl;
            waits = refl;
            calm = refl;
            sent = refl;
            ended = refl;
            views = refl;
            room = c.in_ok-prepare.ensures.room;
          })
          ((c.in_ok-happen.ensures.room) (holds-mapped (fields_of c.prepare.new.self) m.holds)) (c.heal.ensures.stands f.job (core_in f).kernel (core_in f).replicas (ready-stands c.prepare.new.self m.holds (hold-alone f c.args.thread c.args.won.won c.args.won.lost v)) made) (c.heal.ensures.spared c.in_ok-prepare.ensures.spared) c.made-threads.ensures.made c.in_ok-happen.ensures.leaves);
    }

pub returns-clause-entry : goal.returns-clause-entry
returns-clause-entry c =
    let f : Fields = fields_of c.args.self.now in
    let view = c.index-view.result.now in
    let m = c.prepare.ensures.makes in
    let low = hold-steps f c.args.thread c.args.won.won c.args.won.lost c.requires.held in
    let under = c.if-next-self.false in (
      hold-entry f c.args.thread c.args.won.won c.args.won.lost c.requires.held view (hold-there f c.args.thread c.args.won.won c.args.won.lost c.requires.held view c.index-view.ensures) c.of-coming.result.did c.since-count.result (c.from.result + c.steps.result)
          c.of-coming.ensures.did
          c.since-count.ensures (let a = c.since-count.ensures in let b = c.from.ensures in let d = c.steps.ensures in omega arith) (omega arith),
      refl,
      record {
        job = c.occur.ensures.job ∙ ap (λ (x : Setup). record { program = record { image = c.prepare.new.self.image; input = x.input }; faults = c.prepare.new.self.faults.items; settings = c.prepare.new.self.settings }) c.happen.ensures.setup ∙ m.job;
        journal = c.occur.ensures.journal ∙ ap (λ (js : List Entry). js ++ Vote c.args.thread c.since-count.result c.args.won.won c.args.won.lost c.of-coming.result.did ∷ []) m.journal;
      },
    )

pub returns-clause-writer : goal.returns-clause-writer
returns-clause-writer c =
    let f : Fields = fields_of c.args.self.now in
    let view = c.index-view.result.now in
    subst (λ (w : Option ℕ). IfSome w (λ number. number < length c.occur.new.self.views.items)) (sym (c.then_some-writer.ensures ∙ then-some c.happen.new.event.writes c.args.won.won))
    (hold-writer f c.args.thread c.args.won.won c.args.won.lost c.requires.held view (hold-there f c.args.thread c.args.won.won c.args.won.lost c.requires.held view c.index-view.ensures) c.occur.new.self.views.items c.happen.new.event.writes (c.occur.ensures.views ∙ c.prepare.ensures.makes.views))

pub returns-clause-wrote : goal.returns-clause-wrote
returns-clause-wrote c =
    let f : Fields = fields_of c.args.self.now in
    let m = c.prepare.ensures.makes in
    let job = ap (λ (x : Setup). record { program = record { image = c.prepare.new.self.image; input = x.input }; faults = c.prepare.new.self.faults.items; settings = c.prepare.new.self.settings }) c.happen.ensures.setup ∙ m.job in
    let before = ap (λ (j : Job). output_of j c.prepare.new.self.journal.items) job ∙ ap (output_of f.job) m.journal in
    subst (λ (xs : List ℕ). LastWrote (fields_of c.occur.new.self) xs (payload_by c.occur.new.self.views.items c.then_some-writer.result)) before
    (subst (λ (vs : List View). LastWrote (fields_of c.occur.new.self) (output_of (record { program = record { image = c.prepare.new.self.image; input = c.happen.new.kernel.setup.input }; faults = c.prepare.new.self.faults.items; settings = c.prepare.new.self.settings }) c.prepare.new.self.journal.items) (payload_by vs c.then_some-writer.result)) (sym c.occur.ensures.views) c.occur.ensures.wrote)

pub returns-clause-majority : goal.returns-clause-majority
returns-clause-majority c =
    let f : Fields = fields_of c.args.self.now in
    let view = c.index-view.result.now in
    subst (λ (w : Option ℕ). (payload_by c.occur.new.self.views.items w ≡ []) ⊎ IsOfMajority f.views (payload_by c.occur.new.self.views.items w)) (sym (c.then_some-writer.ensures ∙ then-some c.happen.new.event.writes c.args.won.won))
    (hold-majority f c.args.thread c.args.won.won c.args.won.lost c.requires.held view (hold-there f c.args.thread c.args.won.won c.args.won.lost c.requires.held view c.index-view.ensures) c.occur.new.self.views.items c.happen.new.event.writes (c.occur.ensures.views ∙ c.prepare.ensures.makes.views))
