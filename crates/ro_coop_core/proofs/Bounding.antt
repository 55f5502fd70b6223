-- A peer as it is in the core: its mutexes, and what the seats know of them.
use Rattle.std.proofs.Common.{◌≡◌, ℕ, ◌^◌, ◌<◌, List, length, Option, Some, None, refl, ap, ◌∙◌, arith}
use Rattle.std.specs.Prelude.{slice_get}
use Rattle.std.specs.Option.{option_map}
use Rattle.std.proofs.lemmas.Option.{option_and_then_some}
use Rattle.ro_plain.proofs.Calls.{some-injective}
use Rattle.ro_replica.specs.Replica.{Replica}
use Rattle.ro_peer.specs.declared.mutexes.Mutex.{Mutex}
use Rattle.ro_peer.specs.Peers.{Peer}
use Rattle.ro_legal.specs.Sides.{Side, peer_with}
use Rattle.ro_legal.specs.Cooperative.{peer_in}
use Rattle.ro_coop_core.specs.Seats.{AreNumbered}
use Rattle.ro_coop_core.specs.Fields.{Fields, core_in, Holds}
use Rattle.ro_coop_core.proofs.Keeping.{keeps-replicas, keeps-mutexes}
use Rattle.ro_coop_core.proofs.Numbered.{side-numbered, few-mutexes}

module _ (f : Fields) (h : Holds f) (place : ℕ) (peer : Peer) (there : peer_in (core_in f) place ≡ Some peer) where
  -- its replica, and what that has beside
  record Parts : Type 0 where
    replica : Replica
    side : Side
    here : slice_get (core_in f).replicas place ≡ Some replica
    beside : slice_get (core_in f).sides place ≡ Some side
    are : side.mutexes ≡ peer.mutexes

  parts : Parts
  parts = option_and_then_some (λ replica. option_map (peer_with replica) (slice_get (core_in f).sides place)) (slice_get (core_in f).replicas place) peer there (λ replica here e. by replica here (slice_get (core_in f).sides place) refl e)
    where
      by : (replica : Replica) → slice_get (core_in f).replicas place ≡ Some replica → (o : Option Side) → slice_get (core_in f).sides place ≡ o → option_map (peer_with replica) o ≡ Some peer → Parts
      by replica here None beside e = absurd (let g : None ≡ Some peer = e in cc)
      by replica here (Some side) beside e = record { replica = replica; side = side; here = here; beside = beside; are = ap (λ (p : Peer). p.mutexes) (some-injective e) }

  pub peer-few : length peer.mutexes < 2 ^ 32
  peer-few =
      let few = few-mutexes f.job (core_in f) f.seats h.seats_are (keeps-replicas f h) (keeps-mutexes f h) place parts.replica parts.side parts.here parts.beside in
      let same : length parts.side.mutexes ≡ length peer.mutexes = ap length parts.are in
      omega arith

  pub peer-numbered : (number : ℕ) (mutex : Mutex) → slice_get peer.mutexes number ≡ Some mutex → AreNumbered number mutex.address (core_in f).sides f.seats
  peer-numbered number mutex e =
      side-numbered f.job (core_in f) f.seats h.seats_are (keeps-replicas f h) (keeps-mutexes f h) place parts.replica parts.side number mutex parts.here parts.beside
      (ap (λ (ms : List Mutex). slice_get ms number) parts.are ∙ e)
