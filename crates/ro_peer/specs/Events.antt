-- What an event does to a peer.
use Rattle.std.specs.Prelude.{ℕ, false, ◌==◌, if◌then◌else◌, List, [], ◌∷◌, ◌++◌, map, Option}
use Rattle.ro_event.specs.Effects.{Effect}
use Rattle.ro_thread.specs.declared.Thread.{Thread}
use Rattle.ro_replica.specs.Replica.{applied, cancelled}
use Rattle.ro_peer.specs.declared.mutexes.Mutex.{Mutex}
use Rattle.ro_peer.specs.Peers.{Peer}
use Rattle.ro_peer.specs.Gets.{voted}

-- the effect on its replica
abbrev pub affected : Effect → Peer → Peer
affected effect peer = record peer { replica = cancelled (applied effect peer.replica) }

-- a stop at a call that the peer answers itself goes
abbrev pub without_own : List Mutex → Thread → Thread
without_own mutexes thread = record thread { stop = voted mutexes thread.stop }

-- it answers for a mutex more, which nobody got in it so far
abbrev pub with_entered : List Mutex → (address : ℕ) → (owner : Option ℕ) → List Mutex
with_entered mutexes address owner = mutexes ++ record { address = address; owner = owner; rank = 0 } ∷ []

abbrev pub entering : (address : ℕ) → (owner : Option ℕ) → Peer → Peer
entering address owner peer = record {
  replica = record peer.replica { threads = map (without_own (with_entered peer.mutexes address owner)) peer.replica.threads };
  mutexes = with_entered peer.mutexes address owner;
  answered = peer.answered;
}

-- the kernel has served a call of the thread
abbrev pub unanswered : (thread : ℕ) → Peer → Peer
unanswered thread peer = record peer { answered = λ t. if t == thread then false else peer.answered t }
