use Rattle.std.proofs.Common.{sym, ap, ◌∙◌}
use Rattle.std.specs.Prelude.{◌==◌, if◌then◌else◌, length}
use Rattle.ro_journal.specs.declared.How.TheVariants.{Deadlock}
use Rattle.ro_legal.specs.declared.actions.Action.TheVariants.{End as DoEnd, Wait}
use Rattle.ro_legal.specs.Core.{nothing_lent}
use Rattle.ro_legal.specs.Action.{action_or}
use Rattle.ro_core.specs.Runs.{fields_of, job_of, state_of}
use Rattle.ro_legal.proofs.Nexts.{next_over, next_due, next_first, next_scrub}
use Rattle.ro_core.proofs.Tests.{leases-are, over-is}
use Rattle.ro_core.proofs.cores.Core.next_action.Goals as goal

pub returns-then-is_some : goal.returns-then-is_some
returns-then-is_some c =
    record { next = sym (next_over (job_of c.args.self.now) (state_of c.args.self.now) (over-is (fields_of c.args.self.now) c.requires.holds _ c.if-is_some.ensures)) }

pub returns-in-Some : goal.returns-in-Some
returns-in-Some c =
    record { next = sym (next_due (job_of c.args.self.now) (state_of c.args.self.now) c.in-Some.how (over-is (fields_of c.args.self.now) c.requires.holds _ c.if-is_some.ensures) (sym c.requires.holds.due_is ∙ c.in-Some.is)) }

pub returns-then-is_scrub_due : goal.returns-then-is_scrub_due
returns-then-is_scrub_due c =
    record {
      next = c.scrub_action.ensures ∙ sym (next_scrub (job_of c.args.self.now) (state_of c.args.self.now) (over-is (fields_of c.args.self.now) c.requires.holds _ c.if-is_some.ensures) (sym c.requires.holds.due_is ∙ c.in_default.is) (sym c.if-is_scrub_due.ensures));
    }

pub returns-in-Some-first_action : goal.returns-in-Some-first_action
returns-in-Some-first_action c =
    let state = state_of c.args.self.now in
    record {
      next = sym (next_first (job_of c.args.self.now) state (over-is (fields_of c.args.self.now) c.requires.holds _ c.if-is_some.ensures) (sym c.requires.holds.due_is ∙ c.in_default.is) (sym c.if-is_scrub_due.ensures)
          ∙ ap (action_or (if nothing_lent state then DoEnd Deadlock else Wait)) (sym c.first_action.ensures ∙ c.in-Some-first_action.is));
    }

pub returns-then-is_empty : goal.returns-then-is_empty
returns-then-is_empty c =
    let state = state_of c.args.self.now in
    let empty = ap (λ ls. length ls == 0) (leases-are (fields_of c.args.self.now) c.requires.holds) ∙ ap (λ n. n == 0) (sym c.args.self.now.leases.ok.0) ∙ sym c.if-is_empty.ensures in
    record {
      next = sym (next_first (job_of c.args.self.now) state (over-is (fields_of c.args.self.now) c.requires.holds _ c.if-is_some.ensures) (sym c.requires.holds.due_is ∙ c.in_default.is) (sym c.if-is_scrub_due.ensures)
          ∙ ap (action_or (if nothing_lent state then DoEnd Deadlock else Wait)) (sym c.first_action.ensures ∙ c.in-None.is) ∙ ap (λ b. if b then DoEnd Deadlock else Wait) empty);
    }

pub returns-else-is_empty : goal.returns-else-is_empty
returns-else-is_empty c =
    let state = state_of c.args.self.now in
    let empty = ap (λ ls. length ls == 0) (leases-are (fields_of c.args.self.now) c.requires.holds) ∙ ap (λ n. n == 0) (sym c.args.self.now.leases.ok.0) ∙ sym c.if-is_empty.ensures in
    record {
      next = sym (next_first (job_of c.args.self.now) state (over-is (fields_of c.args.self.now) c.requires.holds _ c.if-is_some.ensures) (sym c.requires.holds.due_is ∙ c.in_default.is) (sym c.if-is_scrub_due.ensures)
          ∙ ap (action_or (if nothing_lent state then DoEnd Deadlock else Wait)) (sym c.first_action.ensures ∙ c.in-None.is) ∙ ap (λ b. if b then DoEnd Deadlock else Wait) empty);
    }
