-- A peer and its parts as contracts see them.
pub use Rattle.ro_peer.specs.Indexed.{number_of}
use Rattle.std.specs.Prelude.{false, List, slice_index_or}
use Rattle.std.specs.Option.{option_and_then}
use Rattle.ro_replica.specs.Seen.{replica_of}
use Rattle.ro_orders.specs.Answers.{Answer, Answers, Waits}
use Rattle.ro_orders.specs.Copies.{Rows}
use Rattle.ro_peer.specs.declared.answers.Answer.{Answer as Said}
use Rattle.ro_peer.specs.declared.answers.Answer.TheVariants.{Answers as SaysAnswers, Waits as SaysWaits}
use Rattle.ro_peer.specs.declared.mutexes.Mutex.{Mutex}
use Rattle.ro_peer.specs.declared.peers.Peer.{Peer as PeerOf}
use Rattle.ro_peer.specs.Peers.{Peer}

-- the peer that this stands for
abbrev pub peer_of : PeerOf → Peer
peer_of value = record { replica = replica_of value.replica; mutexes = value.mutexes; answered = λ thread. slice_index_or value.answered thread false }

-- what a lock or an unlock comes to
abbrev pub said : Said → Answer
said (SaysAnswers change value) = Answers change value
said SaysWaits = Waits

-- rows by the mutexes' numbers, as rows by their addresses
abbrev pub by_address : List Mutex → Rows → Rows
by_address mutexes rows = λ address rank. option_and_then (λ number. rows number rank) (number_of mutexes address)
