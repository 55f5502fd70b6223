-- What comes back as an entry tells, or does not: what entries tell, and peers.
use Rattle.std.specs.Prelude.{◌≡◌, ◌≢◌, ◌⊎◌, ◌<◌, ◌≤◌, ◌==◌, ◌&&◌, ℕ, true, List, [], Some, None, is_some, if◌then◌else◌, slice_get}
use Rattle.ro_journal.specs.declared.Lease.{Lease}
use Rattle.ro_journal.specs.declared.Entry.{Entry}
use Rattle.ro_journal.specs.declared.Entry.TheVariants.{Put, Part}
use Rattle.ro_replica.specs.Seen.{SameProgram}
use Rattle.ro_peer.specs.declared.mutexes.Mutex.{Mutex}
use Rattle.ro_peer.specs.declared.running.Came.{Came}
use Rattle.ro_peer.specs.declared.running.Came.TheVariants.{Quantum, Row, Full}
use Rattle.ro_peer.specs.Gets.{got_in}
use Rattle.ro_peer.specs.Seen.{peer_of}
use Rattle.ro_peer.specs.Leases.{PeerRuns, KeepsRows, Wins, waiting_at}
use Rattle.ro_locking.specs.Asking.{below, ceiling_of}
use Rattle.ro_lease.specs.declared.Took.{Took}
use Rattle.ro_coop_lease.specs.declared.Lent.{Lent}
use Rattle.ro_audit.specs.declared.follower.Why.{Why}
use Rattle.ro_audit.specs.declared.follower.Why.TheVariants.{Ran, NoPut, NoPart, OtherGot}
use Rattle.ro_audit.specs.declared.ranks.Rank.{Rank}
use Rattle.ro_audit.specs.declared.returning.Told.{Told}
use Rattle.ro_audit.specs.Ranks.{rows_in, won_in}

-- the entry by which a lease comes back as it is told
abbrev pub told_entry : Lease → Told → Entry
told_entry lease told = if told.waits then Part lease told.count told.hit else Put lease told.count told.hit

-- why it does not come back so, where its thread stands otherwise
abbrev pub refusal_of : Told → Why
refusal_of told = if told.waits then NoPart else NoPut

-- why it doesn't, where its run came to these counts: they are others, or it comes back by the other entry
abbrev pub otherwise : Told → Took → Why
otherwise told took = if (took.count == told.count) && (took.hit == told.hit) then refusal_of told else Ran took.count took.hit

-- the same loan, but for what the thread's run made of the peer
pub record SameLoan (old new : Lent) : Type 0 where
  pub lease : new.lease ≡ old.lease
  pub quantum : new.quantum ≡ old.quantum
  pub program : SameProgram new.partner.peer.replica old.partner.peer.replica
  pub faultless : new.partner.peer.replica.waiting ≡ []
  pub ceilings : new.partner.ceilings.items ≡ old.partner.ceilings.items

-- A run of the thread for so many instructions at most. It got mutexes below their ceilings alone, and at no rank that another
-- thread had got; what it got is known.
pub record RunsFor (most : ℕ) (old new : Lent) (before after : List (Rank × ℕ)) (count : ℕ) (came : Came) : Type 0 where
  pub same : SameLoan old new
  pub runs : PeerRuns old.partner.peer.replica.layout old.partner.peer.replica.watchdog most old.lease.thread (below old.partner.ceilings.items (rows_in after)) (peer_of old.partner.peer) (peer_of new.partner.peer) count came
  pub keeps : KeepsRows (rows_in before) (rows_in after)
  pub wins : Wins (won_in before) (won_in after) old.partner.peer.mutexes (got_in old.partner.peer.replica.layout old.partner.peer.replica.watchdog count (peer_of old.partner.peer) old.lease.thread)

-- ---- a run that was too short

-- the next rank of the mutex with this number is not below its ceiling
abbrev pub IsAbove : Lent → (number : ℕ) → Type 0
IsAbove lent number = (mutex : Mutex) × (slice_get lent.partner.peer.mutexes number ≡ Some mutex) × (ceiling_of lent.partner.ceilings.items number ≤ mutex.rank)

-- another thread got it
abbrev pub IsOthers : List (Rank × ℕ) → Lent → (number : ℕ) → Type 0
IsOthers ranks lent number =
    (mutex : Mutex) × (slice_get lent.partner.peer.mutexes number ≡ Some mutex) × (other : ℕ) × (rows_in ranks number mutex.rank ≡ Some other) × (other ≢ lent.lease.thread)

-- Why a run that came back by this was too short: its thread can't go on, or could by a mutex alone whose next rank is not below its
-- ceiling; or another thread got that one.
abbrev pub IsShort : List (Rank × ℕ) → Lent → (count : ℕ) → Came → Why → Type 0
IsShort ranks lent count (Row number) (Ran other struck) = (other ≡ count) × (struck ≡ 0) × IsAbove lent number
IsShort ranks lent count (Row number) OtherGot = IsOthers ranks lent number
IsShort ranks lent count (Full number) why = ⊥
IsShort ranks lent count came (Ran other struck) = (other ≡ count) × (struck ≡ 0)
IsShort ranks lent count came why = ⊥

-- ---- where the thread stands

-- one more instruction of the thread, by which it gets nothing
pub record Looks (old new : Lent) (count : ℕ) (came : Came) : Type 0 where
  pub same : SameLoan old new
  pub runs : PeerRuns old.partner.peer.replica.layout old.partner.peer.replica.watchdog 1 old.lease.thread (λ number rank. None) (peer_of old.partner.peer) (peer_of new.partner.peer) count came

-- behind so many instructions the thread comes back by this
abbrev pub StandsBy : (count : ℕ) → (old new : Lent) → Came → Type 0
StandsBy count old new Quantum = (count ≡ old.quantum) × (new ≡ old)
StandsBy count old new came = (count < old.quantum) × Looks old new 0 came

-- and so it is told
pub record StandsAsTold (told : Told) (old new : Lent) (came : Came) : Type 0 where
  pub stands : StandsBy told.count old new came
  pub unstruck : told.hit ≡ 0
  pub waits : is_some (waiting_at came) ≡ told.waits

-- what it is told, and does not: that faults were struck; that it waits behind a whole quantum; or that it comes back where it goes
-- on, or comes back by something else
abbrev pub IsUntold : Told → Lent → Type 0
IsUntold told old =
    (told.hit ≢ 0)
    ⊎ ((told.count ≡ old.quantum) × (told.waits ≡ true))
    ⊎ ((told.count < old.quantum) × (new : Lent) × (count : ℕ) × (came : Came) × Looks old new count came × ((count ≢ 0) ⊎ (is_some (waiting_at came) ≢ told.waits)))
