use Rattle.ro_region.specs.declared.Kind.TheVariants.{Write}
use Rattle.test_steps.proofs.stretches.shows_data.Goals as goal

pub shows-before-requires-clause-open : goal.shows-before-requires-clause-open
shows-before-requires-clause-open g c = c.new-open.ensures _ _ _ Write
