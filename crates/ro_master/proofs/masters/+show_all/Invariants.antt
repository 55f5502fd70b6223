use Rattle.std.proofs.Common.{length}
use Rattle.ro_master.proofs.masters.+show_all.Given as goal

abbrev pub decreases-show_all : goal.decreases-show_all
decreases-show_all g c = length c.drivers.now.items
