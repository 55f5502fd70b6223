use Rattle.std.proofs.Common.{ℕ, ◌%◌, ap}
use Rattle.rand_pcg.specs.Lcg.{Lcg, state_after}
use Rattle.ro_inject.proofs.drawing.below.Goals as goal

pub returns-clause-word : goal.returns-clause-word
unfolding state_after
returns-clause-word c = ap (λ (p : ℕ × Lcg). p.0 % c.args.modulus) c.next_word.ensures

pub returns-clause-after : goal.returns-clause-after
unfolding state_after
returns-clause-after c = ap (λ (p : ℕ × Lcg). p.1) c.next_word.ensures
