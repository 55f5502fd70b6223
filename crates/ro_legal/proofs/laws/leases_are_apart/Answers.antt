use Rattle.ro_kernel.specs.Kernel.{ranges_in}
use Rattle.ro_plain.specs.Machine.{setup_of}
use Rattle.ro_legal.specs.Legal.{replay}
use Rattle.ro_legal.proofs.Beside.{beside-both, lends-well}
use Rattle.ro_legal.proofs.laws.leases_are_apart.Goals as goal

pub returns : goal.returns
returns c = λ job journal legal one other e f apart.
    let core = replay job journal in
    beside-both (ranges_in (setup_of job.program) core.kernel) core.lent one other core.leases (lends-well job journal legal).beside e f apart
