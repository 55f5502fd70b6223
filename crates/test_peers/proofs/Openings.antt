-- A peer at the opening, which answers for a mutex: its first thread can run.
use Rattle.std.specs.Prelude.{◌≡◌, ℕ, ◌+◌, ◌<◌, ◌^◌, List, [], map, Option, IsTrue, IfSome, slice_get}
use Rattle.std.proofs.Common.{refl, sym, ap, ◌∙◌, subst, arith}
use Rattle.ro_image.specs.Image.{Image}
use Rattle.ro_replica.specs.Replica.{Replica, opening_replica}
use Rattle.ro_replica.specs.Seen.{ReplicaOf, replica_of, CanCount, IsOpening}
use Rattle.ro_replica.specs.Views.{is_unstopped}
use Rattle.ro_peer.specs.declared.mutexes.Mutex.{Mutex}
use Rattle.ro_peer.specs.declared.peers.Peer.{Peer as PeerOf}
use Rattle.ro_peer.specs.Peers.{Peer}
use Rattle.ro_peer.specs.Seen.{peer_of}
use Rattle.ro_peer.specs.Events.{entering, with_entered, without_own}

-- its replica
abbrev pub opened_replica : Image → List Mutex → Replica
opened_replica image mutexes = record (opening_replica image [] 0) { threads = map (without_own mutexes) (opening_replica image [] 0).threads }

replica_is : (image : Image) (watchdog : ℕ) (one two : ReplicaOf) (old new : PeerOf) (address : ℕ) (owner : Option ℕ) → IsOpening image 0 [] watchdog one → two ≡ one → old.replica ≡ two → peer_of new ≡ entering address owner (peer_of old)
    → replica_of new.replica ≡ opened_replica image (with_entered old.mutexes address owner)
replica_is image watchdog one two old new address owner opening boxed its entered =
    ap (λ (p : Peer). p.replica) entered
    ∙ ap (λ (r : Replica). record r { threads = map (without_own (with_entered old.mutexes address owner)) r.threads }) (ap replica_of (its ∙ boxed) ∙ opening.opening)

pub record IsReady (value : PeerOf) : Type 0 where
  pub free : value.replica.waiting ≡ []
  pub going : IsTrue (is_unstopped 0 (replica_of value.replica))
  pub countable : CanCount 4096 value.replica 0

first_ready : (image : Image) (mutexes : List Mutex) (replica : Replica) → replica ≡ opened_replica image mutexes → (replica.waiting ≡ []) × IsTrue (is_unstopped 0 replica) × IfSome (slice_get replica.threads 0) (λ t. t.done + 4096 < 2 ^ 128)
unfolding opening_replica
first_ready image mutexes replica is =
    let few : 0 + 4096 < 2 ^ 128 = omega arith in
    subst (λ (r : Replica). (r.waiting ≡ []) × IsTrue (is_unstopped 0 r) × IfSome (slice_get r.threads 0) (λ t. t.done + 4096 < 2 ^ 128)) (sym is) (refl, refl, few)

pub opened_ready : (image : Image) (watchdog : ℕ) (one two : ReplicaOf) (old new : PeerOf) (address : ℕ) (owner : Option ℕ) → IsOpening image 0 [] watchdog one → two ≡ one → old.replica ≡ two → peer_of new ≡ entering address owner (peer_of old) → IsReady new
opened_ready image watchdog one two old new address owner opening boxed its entered =
    let ready = first_ready image (with_entered old.mutexes address owner) (replica_of new.replica) (replica_is image watchdog one two old new address owner opening boxed its entered) in
    record { free = ready.0; going = ready.1; countable = ready.2 }
