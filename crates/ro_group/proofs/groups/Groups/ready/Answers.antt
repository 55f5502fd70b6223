use Rattle.std.proofs.Common.{◌≡◌, ◌∙◌, ap, ℕ, length}
use Rattle.std.specs.Prelude.{◌==◌}
use Rattle.ro_group.specs.Groups.{Groups, is_ready, group_size}
use Rattle.ro_group.proofs.Sizes.{size-all}
use Rattle.ro_group.proofs.groups.Groups.ready.Goals as goal

pub returns : goal.returns
returns c =
    let s = c.self.inside in
    ap (λ (n : ℕ). n == c.len.result) (c.self.invariant.each c.args.thread c.requires)
    ∙ ap (λ (n : ℕ). group_size s.rows.items c.args.thread == n) (let e : c.len.result ≡ length s.rows.items = c.len.ensures ∙ s.rows.ok.0 in e)
    ∙ size-all s.rows.items c.args.thread
    ∙ ap (λ (g : Groups). is_ready g c.args.thread) c.self.view_is
