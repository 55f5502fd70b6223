use Rattle.ro_legal.proofs.Lasting.{all_idle}
use Rattle.ro_legal.proofs.laws.idle_drivers_hold_nothing.Goals as goal

pub returns : goal.returns
returns c = all_idle
