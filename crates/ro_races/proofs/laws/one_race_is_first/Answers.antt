use Rattle.ro_races.proofs.Firsts.{one-first}
use Rattle.ro_races.proofs.laws.one_race_is_first.Goals as goal

pub returns : goal.returns
returns c program threads i j byte other_i other_j other_byte f g = one-first program threads i j byte other_i other_j other_byte f g
