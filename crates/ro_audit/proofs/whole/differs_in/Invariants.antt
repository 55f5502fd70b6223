use Rattle.ro_replica.specs.Seen.{replica_of}
use Rattle.ro_audit.proofs.Pages.{AreSameTo}
use Rattle.ro_audit.proofs.whole.differs_in.Given as goal

abbrev pub invariant-loop-place : goal.invariant-loop-place
invariant-loop-place l = AreSameTo (replica_of l.one) (replica_of l.other) l.page l.place
