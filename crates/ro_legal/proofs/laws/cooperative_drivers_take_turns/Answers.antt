use Rattle.ro_legal.proofs.TogetherTurns.{together_turns_of_one}
use Rattle.ro_legal.proofs.laws.cooperative_drivers_take_turns.Goals as goal

pub returns : goal.returns
returns c = together_turns_of_one
