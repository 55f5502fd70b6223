use Rattle.std.proofs.Common.{length}
use Rattle.ro_master.proofs.masters.+seat_all.Given as goal

abbrev pub decreases-seat_all : goal.decreases-seat_all
decreases-seat_all g c = length c.shares.now.items
