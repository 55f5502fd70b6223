use Rattle.std.proofs.Common.{length}
use Rattle.ro_coop_core.proofs.seats.+taker.Given as goal

abbrev pub decreases-taker : goal.decreases-taker
decreases-taker c = length c.seats.now
