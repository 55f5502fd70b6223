use Rattle.std.proofs.Common.{length}
use Rattle.ro_coop_core.proofs.seats.+show_all.Given as goal

abbrev pub decreases-show_all : goal.decreases-show_all
decreases-show_all c = length c.seats.now
