use Rattle.std.proofs.Common.{◌≡◌, ◌∙◌, ap, length, arith}
use Rattle.ro_group.specs.Groups.{Groups}
use Rattle.ro_group.proofs.Sizes.{released-more, released-all}
use Rattle.ro_group.proofs.groups.Groups.release.Goals as goal

pub set-requires-clause-replica : goal.set-requires-clause-replica
set-requires-clause-replica c =
    let rows : c.len-replica-end.result ≡ length c.args.self.now = c.len-replica-end.ensures ∙ c.self.inside.rows.ok.0 ∙ ap (λ (g : Groups). length g) c.self.view_is in
    let same = c.loop-replica.invariant.count in
    let less = c.loop-replica-test.true in
    omega arith

pub loop-replica-preserved : goal.loop-replica-preserved
loop-replica-preserved c = released-more _ _ _ _ _ c.loop-replica.invariant c.set.ensures

pub returns : goal.returns
returns c =
    let rows : c.len-replica-end.result ≡ length c.args.self.now = c.len-replica-end.ensures ∙ c.self.inside.rows.ok.0 ∙ ap (λ (g : Groups). length g) c.self.view_is in
    released-all _ _ _ _ c.loop-replica.invariant (let ends = c.loop-replica-test.false in omega arith)
