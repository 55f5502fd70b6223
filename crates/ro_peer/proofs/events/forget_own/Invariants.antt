use Rattle.std.proofs.Common.{◌≡◌}
use Rattle.ro_replica.specs.Seen.{replica_of, SameProgram}
use Rattle.ro_peer.specs.Events.{without_own}
use Rattle.ro_peer.proofs.Forgetting.{changed_to}
use Rattle.ro_peer.proofs.events.forget_own.Given as goal

abbrev pub invariant-loop-thread : goal.invariant-loop-thread
invariant-loop-thread l = record {
  program : SameProgram l.replica l.fn.replica;
  forgotten : replica_of l.replica ≡ record (replica_of l.fn.replica) { threads = changed_to (without_own l.mutexes) l.thread l.fn.replica.threads };
}
