use Rattle.std.proofs.Common.{length}
use Rattle.ro_core.proofs.seats.+reserve_pages.Given as goal

abbrev pub decreases-reserve_pages : goal.decreases-reserve_pages
decreases-reserve_pages c = length c.seats.now
