use Rattle.std.proofs.Common.{length}
use Rattle.ro_coop_core.proofs.seats.+occur_in_all.Given as goal

abbrev pub decreases-occur_in_all : goal.decreases-occur_in_all
decreases-occur_in_all c = length c.seats.now
