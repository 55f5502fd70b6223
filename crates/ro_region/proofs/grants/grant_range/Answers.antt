use Rattle.std.proofs.Common.{arith, ◌∷◌}
use Rattle.ro_region.proofs.Granted.{granted-wider, granted-in, granted-set}
use Rattle.ro_region.proofs.grants.grant_range.Goals as goal

pub loop-place-init : goal.loop-place-init
loop-place-init c ranges h = granted-wider c.args.range.now ranges c.args.pages.now.items h

pub loop-place-preserved : goal.loop-place-preserved
loop-place-preserved c ranges h =
    let within = c.pages_in-from.ensures.within c.loop-place.place (omega arith) (omega arith) in
    granted-set (c.args.range.now ∷ ranges) c.loop-place.pages.items c.loop-place.place c.of-grant.result (c.loop-place.invariant ranges h)
    (granted-in c.args.range.now ranges c.loop-place.place c.of-grant.result c.of-grant.ensures within.0 within.1)
