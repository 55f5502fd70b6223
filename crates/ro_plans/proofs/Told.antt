-- What callers of a walk need of what it tells.
use Rattle.std.specs.Prelude.{◌≡◌, ℕ, ◌+◌, ◌^◌, ◌<◌, ◌≤◌, List, length, take, Option, Some, None}
use Rattle.std.proofs.Common.{ap, ◌∙◌, arith, length-append}
use Rattle.std.proofs.lemmas.List.{length-replicate}
use Rattle.ro_settings.specs.declared.Mode.{Mode}
use Rattle.ro_journal.specs.declared.Entry.{Entry}
use Rattle.ro_plans.specs.declared.walk.Stretch.{Stretch}
use Rattle.ro_plans.specs.Plans.{plan_in}
use Rattle.ro_plans.specs.Walks.{Adds, stretch_steps}
use Rattle.ro_plans.proofs.Prefixes.{begins-length, plan-begins}

module _ (mode : Mode) (journal : List Entry) (place : ℕ) (told : Option Stretch) where
  -- as many steps as were told
  pub told-length : Adds mode journal place told → length (plan_in mode (take (place + 1) journal)) ≡ length (plan_in mode (take place journal)) + length (stretch_steps told)
  told-length adds = ap length adds ∙ length-append (plan_in mode (take place journal)) (stretch_steps told)

  pub told-some : (stretch : Stretch) → told ≡ Some stretch → Adds mode journal place told → length (plan_in mode (take (place + 1) journal)) ≡ length (plan_in mode (take place journal)) + stretch.count
  told-some stretch is adds =
      told-length adds
      ∙ ap (λ (n : ℕ). length (plan_in mode (take place journal)) + n) (ap (λ (o : Option Stretch). length (stretch_steps o)) is ∙ length-replicate stretch.count stretch.thread)

  pub told-none : told ≡ None → Adds mode journal place told → length (plan_in mode (take (place + 1) journal)) ≡ length (plan_in mode (take place journal)) + 0
  told-none is adds = omega (arith, told-length adds, ap (λ (o : Option Stretch). length (stretch_steps o)) is)

-- the plan of the first entries is no longer than that of all
pub plan-le : (mode : Mode) (journal : List Entry) (n : ℕ) → length (plan_in mode (take n journal)) ≤ length (plan_in mode journal)
plan-le mode journal n = begins-length _ _ (plan-begins mode journal n)

pub plan-fits : (mode : Mode) (journal : List Entry) (n : ℕ) → length (plan_in mode journal) < 2 ^ 64 → length (plan_in mode (take n journal)) < 2 ^ 64
plan-fits mode journal n fits = omega (arith, fits, plan-le mode journal n)
