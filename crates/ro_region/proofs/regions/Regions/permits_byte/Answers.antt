use Rattle.std.proofs.Common.{◌&&◌, nat_le, nat_lt, ◌+◌, sym, ap, ◌∙◌}
use Rattle.std.specs.Arc.{arc_value}
use Rattle.ro_region.specs.Permission.{allows, permits_byte, ranges_of}
use Rattle.ro_region.proofs.Granted.{any-given}
use Rattle.ro_region.proofs.regions.Regions.permits_byte.Goals as goal

pub returns-else-permits : goal.returns-else-permits
returns-else-permits c =
    let a = c.args.address in
    let kind = c.args.kind in
    c.permits-else-permits.ensures ∙ ap (λ rs. permits_byte rs kind a) c.as_slice.ensures.value
    ∙ any-given (λ range. nat_le range.start a && nat_lt a (range.start + range.length) && allows range kind) c.self.inside.given.items (arc_value c.self.inside.first)
    (ap (λ rs. permits_byte rs kind a) (sym (c.ranges-2.ensures ∙ c.deref.ensures)) ∙ sym c.permits.ensures ∙ c.if-permits.false)
    ∙ ap (λ rs. permits_byte (ranges_of rs) kind a) c.self.view_is
