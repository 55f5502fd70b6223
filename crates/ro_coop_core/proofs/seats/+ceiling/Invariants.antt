use Rattle.std.proofs.Common.{length}
use Rattle.ro_coop_core.proofs.seats.+ceiling.Given as goal

abbrev pub decreases-ceiling : goal.decreases-ceiling
decreases-ceiling c = length c.seats.now
