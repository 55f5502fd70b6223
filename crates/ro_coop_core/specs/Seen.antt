-- A cooperative core as contracts see it.
use Rattle.std.specs.Prelude.{◌≡◌, ◌<◌, ◌≤◌, ◌+◌, ◌^◌, ℕ, IfSome, IsTrue, not, ◌&&◌, List, [], ◌∷◌, ◌++◌, length, Option, Some, is_none, nat_lt, slice_get, slice_index_or}
use Rattle.std.specs.Option.{option_and_then, option_map}
use Rattle.ro_event.specs.Views.{View}
use Rattle.ro_journal.specs.declared.How.TheVariants.{Differ}
use Rattle.ro_journal.specs.declared.Entry.{Entry}
use Rattle.ro_journal.specs.declared.Entry.TheVariants.{Put, Part, End}
use Rattle.ro_journal.specs.declared.Lease.{Lease}
use Rattle.ro_journal.specs.Plan.{outcome_of}
use Rattle.ro_replica.specs.Seen.{replica_of, CanCount}
use Rattle.ro_replica.specs.Views.{is_unstopped}
use Rattle.ro_peer.specs.declared.mutexes.Mutex.{Mutex}
use Rattle.ro_peer.specs.declared.running.Came.{Came}
use Rattle.ro_peer.specs.declared.running.Came.TheVariants.{Quantum, Stopped}
use Rattle.ro_peer.specs.Leases.{waiting_at}
use Rattle.ro_peer.specs.Seen.{peer_of}
use Rattle.ro_legal.specs.declared.parkings.Parking.{Parking}
use Rattle.ro_legal.specs.Sides.{Side, is_ahead}
use Rattle.ro_legal.specs.Core.{Job, Core, is_given_up, may_vote, views_of, lease_of}
use Rattle.ro_legal.specs.Cooperative.{IsAllowed, EndsVote, after, replay, peer_in}
use Rattle.ro_legal.specs.Lent.{IsOfJob}
use Rattle.ro_coop_core.specs.declared.seats.Partner.{Partner}

-- what a core was opened with; its journal; for how many entries there is room; the views of the last vote
pub record RunOf : Type 0 where
  pub job : Job
  pub journal : List Entry
  pub room : ℕ
  pub views : List View

-- the core that the journal leaves
abbrev pub state : RunOf → Core
state run = replay run.job run.journal

-- one entry more
pub record Appends (old new : RunOf) (entry : Entry) : Type 0 where
  pub job : new.job ≡ old.job
  pub journal : new.journal ≡ old.journal ++ entry ∷ []

-- nothing but room and views that nobody was shown
pub record Stays (old new : RunOf) : Type 0 where
  pub job : new.job ≡ old.job
  pub journal : new.journal ≡ old.journal

-- room for a take, its return, the returns of the leases that are out, and the end
abbrev pub HasRoom : RunOf → Type 0
HasRoom run = length (state run).leases + 3 ≤ run.room

-- below a mutex's ceiling are just the ranks that are not too far ahead, and that a lease of the thread doesn't give up
abbrev pub AreCeilings : Core → Side → (thread : ℕ) → List ℕ → Type 0
AreCeilings core side thread ceilings =
    (number rank : ℕ) (mutex : Mutex) → slice_get side.mutexes number ≡ Some mutex → rank < 2 ^ 32
    → nat_lt rank (slice_index_or ceilings number 0) ≡ (not (is_ahead core.sides mutex.address rank) && not (is_given_up core side thread mutex rank))

-- The peer that is lent, as it is in the core; its thread can run for a quantum, and no fault waits.
pub record IsLent (run : RunOf) (number thread : ℕ) (partner : Partner) : Type 0 where
  pub program : IsOfJob run.job (state run).kernel partner.peer.replica
  pub peer : peer_in (state run) number ≡ Some (peer_of partner.peer)
  pub going : IsTrue (is_unstopped thread (replica_of partner.peer.replica))
  pub countable : CanCount run.job.settings.quantum partner.peer.replica thread
  pub faultless : partner.peer.replica.waiting ≡ []
  pub count : length partner.ceilings.items ≡ length partner.peer.mutexes
  pub side : Side
  pub beside : slice_get (state run).sides number ≡ Some side
  pub ceilings : AreCeilings (state run) side thread partner.ceilings.items

-- the entry of a lease that came back so
abbrev pub return_of : Lease → (count : ℕ) → Came → Entry
return_of lease count Quantum = Put lease count 0
return_of lease count (Stopped stop) = Put lease count 0
return_of lease count came = Part lease count 0

-- where a thread waits that came back so
abbrev pub parking_at : List Mutex → Came → Option Parking
parking_at mutexes came =
    option_map (λ mutex. record { mutex = mutex.address; rank = mutex.rank; asked = is_none mutex.owner }) (option_and_then (λ number. slice_get mutexes number) (waiting_at came))

-- where a thread waits in a replica
abbrev pub parked_in : Core → (number thread : ℕ) → Option Parking
parked_in core number thread = option_and_then (λ side. side.parked thread) (slice_get core.sides number)

-- What a driver may put back: it holds a lease, the run that it tells is one of the lent peer, and the peer is what that
-- run makes of it.
pub record MayReturn (run : RunOf) (driver : ℕ) (partner : Partner) (count : ℕ) (came : Came) : Type 0 where
  pub lease : Lease
  pub held : lease_of (state run) driver ≡ Some lease
  pub allowed : IsAllowed run.job (state run) (return_of lease count came)
  pub program : IsOfJob run.job (state run).kernel partner.peer.replica
  pub became : peer_in (after run.job (state run) (return_of lease count came)) lease.replica ≡ Some (peer_of partner.peer)
  pub ceilings : length partner.ceilings.items ≡ length partner.peer.mutexes
  pub within : IfSome (waiting_at came) (λ number. number < length partner.peer.mutexes)
  pub waits : parked_in (after run.job (state run) (return_of lease count came)) lease.replica lease.thread ≡ parking_at partner.peer.mutexes came

-- the return of the lease that a driver holds
abbrev pub ReturnIs : RunOf → RunOf → (driver count : ℕ) → Came → Type 0
ReturnIs old new driver count came = (lease : Lease) → lease_of (state old) driver ≡ Some lease → Appends old new (return_of lease count came)

-- the journal ended where these were the views, and the replicas did not agree
pub record ShowsViews (job : Job) (journal : List Entry) (views : List View) : Type 0 where
  pub before : List Entry
  pub journal_is : journal ≡ before ++ End Differ ∷ []
  pub thread : ℕ
  pub may : IsTrue (may_vote (replay job before) thread)
  pub differ : EndsVote job (replay job before) thread Differ
  pub views_are : views ≡ views_of job (replay job before) thread

-- the views of a vote on which the replicas differed are kept
abbrev pub KeepsViews : Job → List Entry → List View → Type 0
KeepsViews job journal views = outcome_of journal ≡ Some Differ → ShowsViews job journal views
