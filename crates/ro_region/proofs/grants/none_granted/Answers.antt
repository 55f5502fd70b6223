use Rattle.std.proofs.Common.{rules}
use Rattle.ro_region.proofs.Granted.{none-granted}
use Rattle.ro_region.proofs.grants.none_granted.Goals as goal

pub returns : goal.returns
returns c = none-granted _ (c.in_ok-pages.ensures.items_if_clones_equal (λ y e. search rules))
