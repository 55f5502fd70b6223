use Rattle.std.proofs.Common.{◌≡◌, [], List, ℕ, Option, sym, ap, ◌∙◌, subst, arith}
use Rattle.ro_event.specs.declared.calls.Call.{Call}
use Rattle.ro_journal.specs.declared.Entry.{Entry}
use Rattle.ro_kernel.specs.Kernel.{lives_on}
use Rattle.ro_kernel.specs.Serve.{serve}
use Rattle.ro_kernel.specs.State.{State}
use Rattle.ro_serving.proofs.Occurs.{nothing-out}
use Rattle.ro_legal.specs.Core.{Job}
use Rattle.ro_legal.specs.Event.{call_event}
use Rattle.ro_legal.specs.Cooperative.{IsAllowed}
use Rattle.ro_legal.specs.Choices.{DecidesFree}
use Rattle.ro_coop_core.specs.declared.cores.Core.{Core as Run}
use Rattle.ro_coop_core.specs.Seen.{Appends}
use Rattle.ro_coop_core.specs.Fields.{Fields, blocked_at, Holds}
use Rattle.ro_coop_core.specs.Runs.{fields_of, state_of, seen}
use Rattle.ro_coop_core.proofs.Held.{limit-keeps}
use Rattle.ro_coop_core.proofs.Makes.{free-room}
use Rattle.ro_coop_core.proofs.Lapsing.{came-back}
use Rattle.ro_coop_core.proofs.Serving.{lapse-setup, lapse-live, lapse-amid, lapse-failed, lapse-room, lapse-call}
use Rattle.ro_coop_core.proofs.Frees.{free-alone, free-live, free-still, free-not-over, free-ends, free-may-end, free-can}
use Rattle.ro_coop_core.proofs.cores.Core.free.Goals as goal

pub conclude-requires-clause-allowed : goal.conclude-requires-clause-allowed
conclude-requires-clause-allowed c = free-may-end (fields_of c.args.self.now) c.requires.holds c.args.thread c.requires.may c.if-self.true

pub conclude-requires-clause-views : goal.conclude-requires-clause-views
conclude-requires-clause-views c = limit-keeps (fields_of c.args.self.now) c.requires.holds (free-still (fields_of c.args.self.now) c.requires.holds c.args.thread c.requires.may) c.args.self.now.steps 1

pub returns-then-self-clause-entry : goal.returns-then-self-clause-entry
returns-then-self-clause-entry c =
    let f : Fields = fields_of c.args.self.now in
    subst (λ (e : Entry). IsAllowed f.job (state_of c.args.self.now) e × DecidesFree f.job (state_of c.args.self.now) c.args.thread e × Appends (seen c.args.self.now) (seen c.conclude.new.self) e) (sym c.conclude.ensures.entry) (
      (free-not-over f c.requires.holds c.args.thread c.requires.may, free-may-end f c.requires.holds c.args.thread c.requires.may c.if-self.true),
      free-ends f c.requires.holds c.args.thread c.requires.may c.if-self.true,
      c.conclude.ensures.appends,
    )

pub lapse-reservation-requires : goal.lapse-reservation-requires
lapse-reservation-requires c =
    let m = c.prepare.ensures.makes in
    free-live (fields_of c.prepare.new.self) m.holds c.args.thread (free-room (fields_of c.args.self.now) (fields_of c.prepare.new.self) c.args.thread c.requires.may m)

pub serve-requires : goal.serve-requires
serve-requires c =
    let before = c.prepare.new.self in
    let m = c.prepare.ensures.makes in
    let may = free-room (fields_of c.args.self.now) (fields_of before) c.args.thread c.requires.may m in
    lapse-live before c.lapse-reservation.new.self c.args.thread m.holds (free-alone (fields_of before) m.holds c.args.thread may) c.lapse-reservation.ensures.core (free-live (fields_of before) m.holds c.args.thread may)

pub revive-requires : goal.revive-requires
revive-requires c =
    let before = c.prepare.new.self in
    let m = c.prepare.ensures.makes in
    let may = free-room (fields_of c.args.self.now) (fields_of before) c.args.thread c.requires.may m in
    ap (λ (k : State). lives_on k.kernel c.args.thread) c.in-Err.ensures.err
    ∙ lapse-live before c.lapse-reservation.new.self c.args.thread m.holds (free-alone (fields_of before) m.holds c.args.thread may) c.lapse-reservation.ensures.core (free-live (fields_of before) m.holds c.args.thread may)

pub returns-in-Err-clause-holds : goal.returns-in-Err-clause-holds
returns-in-Err-clause-holds c =
    let before = c.prepare.new.self in
    let lapse = c.lapse-reservation.new.self in
    let failed : Run = record lapse { kernel = c.serve.new.kernel } in
    let m = c.prepare.ensures.makes in
    let may = free-room (fields_of c.args.self.now) (fields_of before) c.args.thread c.requires.may m in
    let same = lapse-failed before lapse c.args.thread m.holds (free-alone (fields_of before) m.holds c.args.thread may) c.lapse-reservation.ensures.core c.serve.new.kernel c.in-Err.ensures.err in
    let back = came-back before failed c.revive.new.self c.args.thread c.lapse-reservation.result (same ∙ c.lapse-reservation.ensures.core) c.lapse-reservation.ensures.was c.revive.ensures in
    subst (λ (x : Run). Holds (fields_of x)) (sym back) m.holds

pub occur-requires : goal.occur-requires
occur-requires c =
    let before = c.prepare.new.self in
    let f : Fields = fields_of before in
    let lapse = c.lapse-reservation.new.self in
    let is = c.lapse-reservation.ensures.core in
    let m = c.prepare.ensures.makes in
    let may = free-room (fields_of c.args.self.now) f c.args.thread c.requires.may m in
    let alone = free-alone f m.holds c.args.thread may in
    let there = ap (λ (bs : List (Option Call)). blocked_at bs c.args.thread) m.blocked ∙ c.in-Some.is in
    let other = c.if-self.false in
    let limit : before.settings.limit ≡ c.args.self.now.settings.limit = ap (λ (j : Job). j.settings.limit) m.job in
    let steps : before.steps ≡ c.args.self.now.steps = m.steps in
    let call = c.in-Some.call in
    let r : Run = record lapse { kernel = c.serve.new.kernel } in
    record {
      can = free-can before r m.holds c.args.thread may call there c.serve.new.event c.newcomer_by-newcomer.result
          (sym (lapse-call before lapse c.args.thread m.holds alone is call) ∙ (ap (λ (out : List ℕ). call_event lapse.kernel.kernel c.args.thread call out (serve lapse.kernel.setup lapse.kernel.kernel c.args.thread call)) (sym (nothing-out call.which)) ∙ c.in-Ok.ensures.event []))
          (omega arith) (lapse-amid before lapse c.args.thread m.holds alone is c.serve.new.kernel) (c.serve.ensures.setup ∙ lapse-setup before lapse c.args.thread m.holds alone is) c.newcomer_by-newcomer.ensures
          (lapse-room before lapse c.args.thread m.holds alone is c.serve.new.event.effect.range c.in-Ok.ensures.room) c.in_ok-prepare.ensures.spared c.in_ok-prepare.ensures.places;
    }
