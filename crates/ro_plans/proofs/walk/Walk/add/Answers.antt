use Rattle.std.proofs.Common.{◌≡◌, ◌+◌, ◌*◌, ◌≤◌, ℕ, ◌∙◌, ap, sym, subst, arith, length, slice_index, slice_set}
use Rattle.ro_plans.specs.Walks.{IsMade}
use Rattle.ro_plans.proofs.Knowing.{set-made}
use Rattle.ro_plans.proofs.walk.Walk.add.Goals as goal

pub returns-clause-made : goal.returns-clause-made
returns-clause-made c room =
    let made = c.args.self.now.made in
    let pair : ℕ = c.args.replica * 16 + c.args.thread in
    let long : length made ≡ 80 = omega arith in
    let few : slice_index made pair + c.args.count ≤ 18446744073709551615 = omega (arith, room, c.requires.behind, c.saturating_sub-added.ensures) in
    let sum : c.saturating_add.result ≡ slice_index made pair + c.args.count = omega (arith, few, c.saturating_add.ensures) in
    subst (IsMade made c.args.replica c.args.thread c.args.count) (ap (slice_set made pair) (sym sum) ∙ sym c.raise.ensures.made)
    (set-made made c.args.replica c.args.thread c.args.count long c.requires.replica c.requires.thread)
