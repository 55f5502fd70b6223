-- What comes back of a lease that is out.
use Rattle.std.proofs.Common.{◌≡◌, ℕ, Option, Some, ap, ◌∙◌}
use Rattle.std.specs.Prelude.{slice_get}
use Rattle.ro_journal.specs.declared.Entry.TheVariants.{Put}
use Rattle.ro_replica.specs.Replica.{Replica}
use Rattle.ro_replica.specs.Runs.{RanTo}
use Rattle.ro_journal.specs.declared.Lease.{Lease}
use Rattle.ro_legal.specs.Core.{Job, Core}
use Rattle.ro_legal.specs.Legal.{arrived, lease_run, core_after_put, after}
use Rattle.ro_legal.proofs.Lists.{get-set-same}

-- what a put makes of the replica
pub put_became : (job : Job) (core : Core) (lease : Lease) (count hit : ℕ) (r : Replica) (ran : RanTo) → slice_get core.replicas lease.replica ≡ Some r → lease_run job core lease count ≡ Some ran
    → slice_get (after job core (Put lease count hit)).replicas lease.replica ≡ Some (arrived job core.kernel lease.thread count ran.replica)
unfolding after
put_became job core lease count hit r ran there runs =
    ap (λ (o : Option RanTo). slice_get (core_after_put job core lease count o).replicas lease.replica) runs
    ∙ get-set-same core.replicas lease.replica r (arrived job core.kernel lease.thread count ran.replica) there
