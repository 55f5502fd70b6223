use Rattle.std.proofs.Common.{refl}
use Rattle.rand_pcg.specs.Lcg.{state_after}
use Rattle.ro_inject.proofs.laws.drawn_row.Goals as goal

pub returns : goal.returns
unfolding state_after
returns c = λ ranges. refl
