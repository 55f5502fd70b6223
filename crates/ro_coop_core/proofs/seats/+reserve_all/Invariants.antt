use Rattle.std.proofs.Common.{length}
use Rattle.ro_coop_core.proofs.seats.+reserve_all.Given as goal

abbrev pub decreases-reserve_all : goal.decreases-reserve_all
decreases-reserve_all c = length c.seats.now
