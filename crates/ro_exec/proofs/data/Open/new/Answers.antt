use Rattle.ro_exec.specs.Stretches.{IsOpenTo}
use Rattle.ro_exec.proofs.Openings.{nothing, in_replicate}
use Rattle.ro_exec.proofs.data.Open.new.Goals as goal

pub returns : goal.returns
returns c ranges pages places kind i stretch e =
    in_replicate (IsOpenTo ranges pages places kind) 128 i (record { from = 0; words = 0; place = 0 }) stretch (nothing ranges pages places kind) e
