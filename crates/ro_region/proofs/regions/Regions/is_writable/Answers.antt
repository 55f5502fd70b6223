use Rattle.std.proofs.Common.{◌&&◌, sym, ap, ◌∙◌}
use Rattle.std.specs.Arc.{arc_value}
use Rattle.ro_region.specs.declared.Kind.TheVariants.{Write}
use Rattle.ro_region.specs.Permission.{allows, meets, is_writable, ranges_of}
use Rattle.ro_region.proofs.Granted.{any-given}
use Rattle.ro_region.proofs.regions.Regions.is_writable.Goals as goal

pub returns-else-is_met : goal.returns-else-is_met
returns-else-is_met c =
    let page = c.args.page in
    c.is_met-else-is_met.ensures ∙ ap (λ rs. is_writable rs page) c.as_slice.ensures.value
    ∙ any-given (λ range. allows range Write && meets range page 1) c.self.inside.given.items (arc_value c.self.inside.first)
    (ap (λ rs. is_writable rs page) (sym (c.ranges-2.ensures ∙ c.deref.ensures)) ∙ sym c.is_met.ensures ∙ c.if-is_met.false)
    ∙ ap (λ rs. is_writable (ranges_of rs) page) c.self.view_is
