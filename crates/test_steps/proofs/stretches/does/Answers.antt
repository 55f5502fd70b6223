use Rattle.ro_region.specs.declared.Kind.TheVariants.{Read, Write}
use Rattle.test_steps.proofs.stretches.does.Goals as goal

pub shows-requires-clause-open : goal.shows-requires-clause-open
shows-requires-clause-open g c = c.new-reads.ensures _ _ _ Read

pub shows-requires-2-clause-open : goal.shows-requires-2-clause-open
shows-requires-2-clause-open g c = c.new-writes.ensures _ _ _ Write
