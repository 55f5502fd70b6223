use Rattle.std.proofs.Common.{◌≡◌, ◌<◌, ◌^◌, ℕ, List, ◌++◌, ◌∙◌, ap, sym, subst, length, replicate, ⊎_elim}
use Rattle.ro_journal.specs.declared.Entry.{Entry}
use Rattle.ro_plans.specs.First.{Steps, steps_of, steps_after, lease_steps}
use Rattle.ro_plans.specs.Walks.{Knows, stretch_steps}
use Rattle.ro_plans.proofs.Runs.{are-within, lease-adds}
use Rattle.ro_plans.proofs.Knowing.{knows-served}
use Rattle.ro_plans.proofs.walk.Walk.first.Goals as goal

pub returns-in-Vote-clause-knows : goal.returns-in-Vote-clause-knows
returns-in-Vote-clause-knows c =
    subst (λ (e : Entry). length (steps_after (steps_of c.args.before.now) e).first < 2 ^ 64 → Knows c.args.self.now (steps_after (steps_of c.args.before.now) e)) (sym c.in-Vote.is) (knows-served c.args.self.now (steps_of c.args.before.now) c.in-Vote.thread _ c.requires)

pub returns-in-Free-clause-knows : goal.returns-in-Free-clause-knows
returns-in-Free-clause-knows c =
    subst (λ (e : Entry). length (steps_after (steps_of c.args.before.now) e).first < 2 ^ 64 → Knows c.args.self.now (steps_after (steps_of c.args.before.now) e)) (sym c.in-Free.is) (knows-served c.args.self.now (steps_of c.args.before.now) c.in-Free.thread 1 c.requires)

pub returns-in-Put-clause-adds : goal.returns-in-Put-clause-adds
returns-in-Put-clause-adds c =
    let steps : Steps = steps_of c.args.before.now in
    let adds : (lease_steps c.in-Put.lease c.in-Put.count steps).first ≡ steps.first ++ stretch_steps c.in_a_row-in-Put.result =
    lease-adds c.in-Put.lease c.in-Put.count steps (are-within c.args.before.now)
    ∙ ap (λ (xs : List ℕ). steps.first ++ xs) (ap (λ (n : ℕ). replicate n c.in-Put.lease.thread) (sym c.came_back-added.ensures.fresh) ∙ sym c.in_a_row-in-Put.ensures.steps) in
    ⊎_elim
    (λ p. subst (λ (e : Entry). (steps_after steps e).first ≡ steps.first ++ stretch_steps c.in_a_row-in-Put.result) (sym p.1) adds)
    (λ p. subst (λ (e : Entry). (steps_after steps e).first ≡ steps.first ++ stretch_steps c.in_a_row-in-Put.result) (sym p.1) adds)
    c.in-Put.is
