use Rattle.std.proofs.Common.{◌≡◌, ◌+◌, ◌<◌, ◌^◌, ◌∙◌, ap, sym, subst, length, take}
use Rattle.ro_settings.specs.declared.Mode.{Mode}
use Rattle.ro_settings.specs.declared.Mode.TheVariants.{Cooperative}
use Rattle.ro_journal.specs.Leases.{lease_to}
use Rattle.ro_journal.specs.declared.Entry.TheVariants.{Take}
use Rattle.ro_plans.specs.First.{Steps}
use Rattle.ro_plans.specs.Plans.{plan_in}
use Rattle.ro_plans.specs.Walks.{Adds, PassedIn, Knows}
use Rattle.ro_plans.proofs.Knowing.{voted-next, steps-next}
use Rattle.ro_plans.proofs.walk.Walk.steps.Goals as goal

pub returns-in-Voted-clause-adds : goal.returns-in-Voted-clause-adds
returns-in-Voted-clause-adds c =
    subst (λ (mode : Mode). Adds mode c.args.journal.now c.args.place c.voted.result) (sym c.in-Voted.is)
    (voted-next c.args.journal.now c.args.place (Take (lease_to 0 0 0)) c.requires.within c.voted.result c.voted.ensures.steps)

pub returns-in-Cooperative-clause-adds : goal.returns-in-Cooperative-clause-adds
returns-in-Cooperative-clause-adds c =
    subst (λ (mode : Mode). Adds mode c.args.journal.now c.args.place c.first.result) (sym c.in-Cooperative.is)
    (ap (λ (s : Steps). s.first) (steps-next c.args.journal.now c.args.place (Take (lease_to 0 0 0)) c.requires.within) ∙ c.first.ensures.adds)

pub returns-in-Cooperative-clause-passed : goal.returns-in-Cooperative-clause-passed
returns-in-Cooperative-clause-passed c fits =
    let is : c.args.self.now.mode ≡ Cooperative = c.in-Cooperative.is in
    let next = steps-next c.args.journal.now c.args.place (Take (lease_to 0 0 0)) c.requires.within in
    let few : length (plan_in Cooperative (take (c.args.place + 1) c.args.journal.now)) < 2 ^ 64 = subst (λ (mode : Mode). length (plan_in mode (take (c.args.place + 1) c.args.journal.now)) < 2 ^ 64) is fits in
    subst (λ (mode : Mode). PassedIn mode c.first.new.self (take (c.args.place + 1) c.args.journal.now)) (sym (c.first.ensures.mode ∙ is))
    (subst (λ (s : Steps). Knows c.first.new.self s) (sym next) (c.first.ensures.knows (subst (λ (s : Steps). length s.first < 2 ^ 64) next few)))
