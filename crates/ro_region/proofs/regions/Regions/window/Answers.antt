use Rattle.std.proofs.Common.{reverse, subst, sym}
use Rattle.std.specs.Arc.{arc_value}
use Rattle.ro_region.specs.Permission.{ranges_of}
use Rattle.ro_region.specs.Windows.{IsOpen}
use Rattle.ro_region.specs.Grants.{AreGranted}
use Rattle.ro_region.proofs.Granted.{open-given, open-first}
use Rattle.ro_region.proofs.regions.Regions.window.Goals as goal

pub returns-then-window : goal.returns-then-window
returns-then-window c =
    let window = c.window-window.result in
    subst (λ rs. IsOpen (ranges_of rs) c.args.kind c.args.page window) c.self.view_is
    (open-first (reverse c.self.inside.given.items) (arc_value c.self.inside.first) c.args.kind c.args.page window
    (subst (λ rs. IsOpen rs c.args.kind c.args.page window) c.deref.ensures c.window-window.ensures))

pub returns-else-window : goal.returns-else-window
returns-else-window c =
    let given = reverse c.self.inside.given.items in
    subst (λ rs. IsOpen (ranges_of rs) c.args.kind c.args.page c.window.result) c.self.view_is
    (open-given given (arc_value c.self.inside.first) c.args.kind c.args.page c.window.result
    (c.window.ensures given (subst (AreGranted given) (sym c.as_slice.ensures.value) c.self.invariant.1)))
