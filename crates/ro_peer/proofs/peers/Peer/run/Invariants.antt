use Rattle.std.proofs.Common.{◌≡◌, ◌-◌, ◌≤◌, []}
use Rattle.ro_replica.specs.Seen.{SameProgram, CanCount}
use Rattle.ro_peer.specs.Seen.{peer_of}
use Rattle.ro_peer.specs.Gets.{got_in}
use Rattle.ro_peer.specs.Leases.{IsUnderWay, KeepsRows, Wins}
use Rattle.ro_peer.proofs.peers.Peer.run.Given as goal

abbrev pub invariant-parts : goal.invariant-parts
invariant-parts g l = record {
  within : l.count ≤ l.quantum;
  program : SameProgram l.self.replica l.fn.self.replica;
  faultless : l.self.replica.waiting ≡ [];
  countable : CanCount (l.quantum - l.count) l.self.replica l.thread;
  keeps : KeepsRows (g.L.Locks.rows l.fn.locks) (g.L.Locks.rows l.locks);
  knows : KeepsRows (g.L.Locks.known l.fn.locks) (g.L.Locks.known l.locks);
  stays : g.L.Locks.stays l.locks ≡ g.L.Locks.stays l.fn.locks;
  wins : Wins (g.L.Locks.won l.fn.locks) (g.L.Locks.won l.locks) l.fn.self.mutexes (got_in l.fn.self.replica.layout l.fn.self.replica.watchdog l.count (peer_of l.fn.self) l.thread);
  way : IsUnderWay l.fn.self.replica.layout l.fn.self.replica.watchdog l.thread (g.L.Locks.rows l.locks) (peer_of l.fn.self) (peer_of l.self) l.count;
}

abbrev pub decreases-parts : goal.decreases-parts
decreases-parts g l = l.quantum - l.count
