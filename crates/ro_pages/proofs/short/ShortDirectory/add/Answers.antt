use Rattle.std.proofs.Common.{arith, ap, sym, subst, ◌∙◌}
use Rattle.ro_pages.specs.Directories.{AreOnce, is_listed}
use Rattle.ro_pages.proofs.Shorts.{once_more}
use Rattle.ro_pages.proofs.short.ShortDirectory.add.Goals as goal

pub invariant_of-self : goal.invariant_of-self
invariant_of-self c = (
  subst AreOnce (sym c.push_reserved.ensures.items) (once_more c.self.inside.numbers.items c.args.page c.self.invariant.0 (ap (λ l. is_listed l.numbers c.args.page) c.self.view_is ∙ c.requires.new)),
  omega arith,
)
