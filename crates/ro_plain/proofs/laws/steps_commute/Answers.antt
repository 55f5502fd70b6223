use Rattle.ro_plain.proofs.Calls.{step-comm}
use Rattle.ro_plain.proofs.laws.steps_commute.Goals as goal

pub returns : goal.returns
returns c program machine after thread other different plain is going apart =
    let both = step-comm program machine thread other different plain after is going apart in
    (both.end, both.first_t, both.first_u)
