use Rattle.ro_core.proofs.Held.{holds-mapped}
use Rattle.ro_serving.proofs.Occurs.{nothing-out}
use Rattle.std.proofs.Common.{◌≡◌, ◌++◌, ◌∷◌, [], List, Option, refl, sym, ap, ◌∙◌, subst, arith, append-nil}
use Rattle.ro_event.specs.declared.calls.Call.{Call}
use Rattle.ro_journal.specs.declared.Entry.{Entry}
use Rattle.ro_journal.specs.declared.Entry.TheVariants.{Free}
use Rattle.ro_kernel.specs.Kernel.{Setup}
use Rattle.ro_kernel.specs.Serve.{serve}
use Rattle.ro_legal.specs.Event.{call_event}
use Rattle.ro_core.specs.declared.cores.Core.{Core as Run}
use Rattle.ro_legal.specs.Core.{Job}
use Rattle.ro_legal.specs.Legal.{IsAllowed, output_of}
use Rattle.ro_core.specs.Seen.{Appends}
use Rattle.ro_legal.specs.Decides.{DecidesFree}
use Rattle.ro_core.specs.Fields.{Fields, blocked_at}
use Rattle.ro_core.specs.Runs.{fields_of, state_of, silent}
use Rattle.ro_core.proofs.Held.{limit-keeps}
use Rattle.ro_core.proofs.Votes.{ready-stands}
use Rattle.ro_core.proofs.Frees.{free-goes, free-not-over, free-alone, free-live, free-steps, free-ends, free-may-end, free-allowed, free-can, free-room}
use Rattle.ro_core.proofs.cores.Core.free.Goals as goal

pub conclude-requires-clause-holds : goal.conclude-requires-clause-holds
conclude-requires-clause-holds c = (c.args.self.now.views.items, c.requires.holds)

pub conclude-requires-clause-allowed : goal.conclude-requires-clause-allowed
conclude-requires-clause-allowed c = free-may-end (fields_of c.args.self.now) c.requires.holds c.args.thread c.requires.may c.if-self.true

pub conclude-requires-clause-views : goal.conclude-requires-clause-views
conclude-requires-clause-views c = limit-keeps (fields_of c.args.self.now) c.requires.holds (free-goes (fields_of c.args.self.now) c.requires.holds c.args.thread c.requires.may).not_ended c.args.self.now.steps 1

pub returns-then-self-clause-entry : goal.returns-then-self-clause-entry
returns-then-self-clause-entry c =
    let f : Fields = fields_of c.args.self.now in
    subst (λ (e : Entry). IsAllowed f.job (state_of c.args.self.now) e × DecidesFree f.job (state_of c.args.self.now) c.args.thread e × Appends (silent c.args.self.now) (silent c.conclude.new.self) e) (sym c.conclude.ensures.entry) (
      (free-not-over f c.requires.holds c.args.thread c.requires.may, free-may-end f c.requires.holds c.args.thread c.requires.may c.if-self.true),
      free-ends f c.requires.holds c.args.thread c.requires.may c.if-self.true,
      c.conclude.ensures.appends,
    )

pub serve-requires : goal.serve-requires
serve-requires c =
    let m = c.prepare.ensures.makes in
    free-live (fields_of c.prepare.new.self) m.holds c.args.thread (free-room (fields_of c.args.self.now) (fields_of c.prepare.new.self) c.args.thread c.requires.may m)

pub occur-requires : goal.occur-requires
occur-requires c =
    let old : Fields = fields_of c.args.self.now in
    let f : Fields = fields_of c.prepare.new.self in
    let m = c.prepare.ensures.makes in
    let may = free-room old f c.args.thread c.requires.may m in
    let low = free-steps old c.requires.holds c.args.thread c.requires.may in
    let other = c.if-self.false in
    let limit : f.job.settings.limit ≡ old.job.settings.limit = ap (λ (j : Job). j.settings.limit) m.job in
    let steps = m.steps in
    let setup = c.serve.ensures.setup in
    let r : Run = record c.prepare.new.self { kernel = c.serve.new.kernel } in
    record {
      can = free-can f m.holds c.args.thread may c.in-Some.call (ap (λ (bs : List (Option Call)). blocked_at bs c.args.thread) m.blocked ∙ c.in-Some.is) r c.serve.new.event c.made-threads.result (ap (λ out. call_event f.kernel.kernel c.args.thread c.in-Some.call out (serve f.kernel.setup f.kernel.kernel c.args.thread c.in-Some.call)) (sym (nothing-out c.in-Some.call.which)) ∙ c.in_ok-serve.ensures.event []) (omega arith)
          (record {
            job = ap (λ (x : Setup). record { program = record { image = c.prepare.new.self.image; input = x.input }; faults = c.prepare.new.self.faults.items; settings = c.prepare.new.self.settings }) setup;
            journal = refl;
            leases = refl;
            lent = refl;
            wishes = refl;
            lanes = refl;
            setup = setup;
            blocked = refl;
            unblocked = refl;
            steps = refl;
            scrubbed = refl;
            waits = refl;
            calm = refl;
            sent = refl;
            ended = refl;
            views = refl;
            room = c.in_ok-prepare.ensures.room;
          })
          (c.in_ok-serve.ensures.room (holds-mapped (fields_of c.prepare.new.self) m.holds)) (ready-stands c.prepare.new.self m.holds (free-alone f m.holds c.args.thread may)) c.in_ok-prepare.ensures.spared c.made-threads.ensures.made c.in_ok-serve.ensures.leaves;
    }

pub returns-clause-entry : goal.returns-clause-entry
returns-clause-entry c =
    let f : Fields = fields_of c.args.self.now in
    let m = c.prepare.ensures.makes in
    let low = free-steps f c.requires.holds c.args.thread c.requires.may in
    let other = c.if-self.false in (
      (free-allowed f c.requires.holds c.args.thread c.requires.may c.in-Some.call c.in-Some.is (omega arith)),
      refl,
      record {
        job = c.occur.ensures.job ∙ ap (λ (x : Setup). record { program = record { image = c.prepare.new.self.image; input = x.input }; faults = c.prepare.new.self.faults.items; settings = c.prepare.new.self.settings }) c.serve.ensures.setup ∙ m.job;
        journal = c.occur.ensures.journal ∙ ap (λ (js : List Entry). js ++ Free c.args.thread ∷ []) m.journal;
      },
    )

pub returns-clause-output : goal.returns-clause-output
returns-clause-output c =
    let f : Fields = fields_of c.args.self.now in
    let m = c.prepare.ensures.makes in
    let job = ap (λ (x : Setup). record { program = record { image = c.prepare.new.self.image; input = x.input }; faults = c.prepare.new.self.faults.items; settings = c.prepare.new.self.settings }) c.serve.ensures.setup ∙ m.job in
    c.occur.ensures.wrote.output ∙ append-nil _ ∙ ap (λ (j : Job). output_of j c.prepare.new.self.journal.items) job ∙ ap (output_of f.job) m.journal
