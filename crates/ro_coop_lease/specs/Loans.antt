-- A peer that is lent, and what comes back.
use Rattle.std.specs.Prelude.{◌≡◌, IsTrue, []}
use Rattle.ro_replica.specs.Views.{is_unstopped}
use Rattle.ro_replica.specs.Seen.{replica_of, SameProgram, CanCount}
use Rattle.ro_peer.specs.Gets.{got_in}
use Rattle.ro_peer.specs.Seen.{peer_of}
use Rattle.ro_peer.specs.Leases.{PeerRuns, IsRefused, KeepsRows, Wins}
use Rattle.ro_lockpage.specs.Pages.{PassOf}
use Rattle.ro_locking.specs.Asking.{known_by, won_by, refused_by, below}
use Rattle.ro_coop_lease.specs.declared.Lent.{Lent}
use Rattle.ro_coop_lease.specs.declared.Back.{Back}

-- its thread can run for the quantum, and no fault waits
pub record CanGo (lent : Lent) : Type 0 where
  pub going : IsTrue (is_unstopped lent.lease.thread (replica_of lent.partner.peer.replica))
  pub countable : CanCount lent.quantum lent.partner.peer.replica lent.lease.thread
  pub faultless : lent.partner.peer.replica.waiting ≡ []

-- What the loan may become: a run of its thread that got mutexes below the ceilings alone. The pass is the same one of its page.
pub record Gives (lent : Lent) (old : PassOf) (back : Back) (new : PassOf) : Type 0 where
  pub lease : back.lease ≡ lent.lease
  pub program : SameProgram back.partner.peer.replica lent.partner.peer.replica
  pub ceilings : back.partner.ceilings.items ≡ lent.partner.ceilings.items
  pub runs : PeerRuns lent.partner.peer.replica.layout lent.partner.peer.replica.watchdog lent.quantum lent.lease.thread (below lent.partner.ceilings.items (known_by new)) (peer_of lent.partner.peer) (peer_of back.partner.peer) back.took.count back.took.came
  pub page : new.page ≡ old.page
  pub number : new.number ≡ old.number
  pub knows : KeepsRows (known_by old) (known_by new)
  pub wins : Wins (won_by old) (won_by new) lent.partner.peer.mutexes (got_in lent.partner.peer.replica.layout lent.partner.peer.replica.watchdog back.took.count (peer_of lent.partner.peer) lent.lease.thread)
  pub refused : IsRefused (refused_by (record { pass = new; ceilings = lent.partner.ceilings.items })) lent.lease.thread back.partner.peer.mutexes back.took.came
