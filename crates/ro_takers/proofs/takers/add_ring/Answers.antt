use Rattle.std.proofs.Common.{arith, ap, ◌∙◌, ◌≡◌, ◌++◌, replicate}
use Rattle.ro_takers.proofs.takers.add_ring.Goals as goal

pub returns-clause-items : goal.returns-clause-items
returns-clause-items c =
    let all : c.loop.counter ≡ 1024 = omega arith in
    c.loop.invariant.items ∙ ap (λ n. c.args.rings.now.items ++ replicate n 0) all
