use Rattle.ro_legal.proofs.OneDriver.{turns_of_one}
use Rattle.ro_legal.proofs.laws.one_driver_takes_turns.Goals as goal

pub returns : goal.returns
returns c = turns_of_one
