use Rattle.ro_region.specs.Permission.{ranges_of}
use Rattle.std.proofs.Common.{arith, sym, ◌∙◌}
use Rattle.ro_region.proofs.Each.{permits_all, permits_more, part_not}
use Rattle.ro_region.proofs.regions.Regions.permits_each_page.Goals as goal

pub returns-then-not-permits_in_page : goal.returns-then-not-permits_in_page
returns-then-not-permits_in_page c =
    sym (part_not (ranges_of c.args.self.now) c.args.kind c.args.address c.args.len c.loop-done.done c.min-count.result (omega arith) (omega arith) (sym c.permits_in_page.ensures ∙ c.if-not-permits_in_page.true))

pub loop-done-preserved : goal.loop-done-preserved
loop-done-preserved c = record {
  within = omega arith;
  permitted = permits_more (ranges_of c.args.self.now) c.args.kind c.args.address c.loop-done.done c.min-count.result c.loop-done.invariant.permitted (sym c.permits_in_page.ensures ∙ c.if-not-permits_in_page.false);
}

pub returns : goal.returns
returns c = sym (permits_all (ranges_of c.args.self.now) c.args.kind c.args.address c.args.len (omega arith) (λ k l. c.loop-done.invariant.permitted k (omega arith)))
