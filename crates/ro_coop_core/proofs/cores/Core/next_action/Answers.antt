use Rattle.std.proofs.Common.{sym, ap, ◌∙◌}
use Rattle.std.specs.Prelude.{◌==◌, if◌then◌else◌, length}
use Rattle.ro_journal.specs.declared.How.TheVariants.{Deadlock}
use Rattle.ro_legal.specs.declared.actions.Action.TheVariants.{End as DoEnd, Wait}
use Rattle.ro_legal.specs.Core.{nothing_lent}
use Rattle.ro_legal.specs.Action.{action_or}
use Rattle.ro_legal.proofs.Nexts.{next_over, next_due, next_first}
use Rattle.ro_coop_core.specs.Runs.{fields_of, job_of, state_of}
use Rattle.ro_coop_core.proofs.Tests.{leases-are, over-is, unscrubbed}
use Rattle.ro_coop_core.proofs.cores.Core.next_action.Goals as goal

pub returns-then-is_some : goal.returns-then-is_some
returns-then-is_some c =
    record { next = sym (next_over (job_of c.args.self.now) (state_of c.args.self.now) (over-is (fields_of c.args.self.now) c.requires.holds _ c.if-is_some.ensures)) }

pub returns-in-Some : goal.returns-in-Some
returns-in-Some c =
    record { next = sym (next_due (job_of c.args.self.now) (state_of c.args.self.now) c.in-Some.how (over-is (fields_of c.args.self.now) c.requires.holds _ c.if-is_some.ensures) (sym c.requires.holds.due_is ∙ c.in-Some.is)) }

pub returns-in-Some-first_action : goal.returns-in-Some-first_action
returns-in-Some-first_action c =
    let f = fields_of c.args.self.now in
    let state = state_of c.args.self.now in
    record {
      next = sym (next_first (job_of c.args.self.now) state (over-is f c.requires.holds _ c.if-is_some.ensures) (sym c.requires.holds.due_is ∙ c.in_default.is) (unscrubbed f c.requires.holds)
          ∙ ap (action_or (if nothing_lent state then DoEnd Deadlock else Wait)) (sym c.first_action.ensures ∙ c.in-Some-first_action.is));
    }

pub returns-in-None : goal.returns-in-None
returns-in-None c =
    let f = fields_of c.args.self.now in
    let state = state_of c.args.self.now in
    let empty = ap (λ ls. length ls == 0) (leases-are f c.requires.holds) ∙ ap (λ n. n == 0) (sym c.args.self.now.leases.ok.0) ∙ sym c.if-is_empty.ensures in
    record {
      next = sym (next_first (job_of c.args.self.now) state (over-is f c.requires.holds _ c.if-is_some.ensures) (sym c.requires.holds.due_is ∙ c.in_default.is) (unscrubbed f c.requires.holds)
          ∙ ap (action_or (if nothing_lent state then DoEnd Deadlock else Wait)) (sym c.first_action.ensures ∙ c.in-None.is) ∙ ap (λ b. if b then DoEnd Deadlock else Wait) empty);
    }

pub returns-in-None-2 : goal.returns-in-None-2
returns-in-None-2 c =
    let f = fields_of c.args.self.now in
    let state = state_of c.args.self.now in
    let empty = ap (λ ls. length ls == 0) (leases-are f c.requires.holds) ∙ ap (λ n. n == 0) (sym c.args.self.now.leases.ok.0) ∙ sym c.if-is_empty.ensures in
    record {
      next = sym (next_first (job_of c.args.self.now) state (over-is f c.requires.holds _ c.if-is_some.ensures) (sym c.requires.holds.due_is ∙ c.in_default.is) (unscrubbed f c.requires.holds)
          ∙ ap (action_or (if nothing_lent state then DoEnd Deadlock else Wait)) (sym c.first_action.ensures ∙ c.in-None.is) ∙ ap (λ b. if b then DoEnd Deadlock else Wait) empty);
    }
