use Rattle.std.proofs.Common.{length}
use Rattle.ro_core.proofs.seats.+apply_to_all.Given as goal

abbrev pub decreases-apply_to_all : goal.decreases-apply_to_all
decreases-apply_to_all c = length c.seats.now
