use Rattle.std.proofs.Common.{◌&&◌, nat_le, nat_lt, ◌+◌, sym, ap, ◌∙◌}
use Rattle.std.specs.Arc.{arc_value}
use Rattle.ro_region.specs.Permission.{lies_in_range, ranges_of}
use Rattle.ro_region.proofs.Granted.{any-given}
use Rattle.ro_region.proofs.regions.Regions.contains.Goals as goal

pub returns-else-lies_in : goal.returns-else-lies_in
returns-else-lies_in c =
    let a = c.args.address in
    c.lies_in-else-lies_in.ensures ∙ ap (λ rs. lies_in_range rs a) c.as_slice.ensures.value
    ∙ any-given (λ range. nat_le range.start a && nat_lt a (range.start + range.length)) c.self.inside.given.items (arc_value c.self.inside.first)
    (ap (λ rs. lies_in_range rs a) (sym (c.ranges-2.ensures ∙ c.deref.ensures)) ∙ sym c.lies_in.ensures ∙ c.if-lies_in.false)
    ∙ ap (λ rs. lies_in_range (ranges_of rs) a) c.self.view_is
