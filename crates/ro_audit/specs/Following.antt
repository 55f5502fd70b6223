-- A journal that is followed, by the rules of the job's mode.
use Rattle.std.specs.Prelude.{◌≡◌, ◌≢◌, ◌<◌, ⊤, ℕ, true, IsTrue, List, [], ◌∷◌, ◌++◌, ◌^◌, length, Option, Some, None, slice_get, slice_index_or}
use mathlib.Core.Logic.{inl, inr}
use Rattle.ro_settings.specs.declared.Mode.TheVariants.{Voted, Cooperative}
use Rattle.ro_journal.specs.declared.How.{How}
use Rattle.ro_journal.specs.declared.Entry.{Entry}
use Rattle.ro_journal.specs.declared.Lease.{Lease}
use Rattle.ro_replica.specs.Views.{is_unstopped}
use Rattle.ro_replica.specs.Seen.{ReplicaOf, replica_of, CanCount}
use Rattle.ro_orders.specs.Copies.{Rows}
use Rattle.ro_peer.specs.declared.mutexes.Mutex.{Mutex}
use Rattle.ro_peer.specs.Gets.{Get, InRows}
use Rattle.ro_peer.specs.Seen.{peer_of, by_address}
use Rattle.ro_peer.specs.Leases.{IsAmong}
use Rattle.ro_pages.specs.Held.{has_page, memory_of}
use Rattle.ro_exec.specs.Parts.{SameIn}
use Rattle.ro_replica.specs.Replica.{Replica}
use Rattle.ro_replica.specs.Lent.{LaneOf}
use Rattle.ro_lease.specs.Loans.{CanGo}
use Rattle.ro_lease.specs.declared.Loan.{Loan}
use Rattle.ro_lease.specs.declared.Loan.TheVariants as loans
use Rattle.ro_lease.specs.declared.Lent.{Lent as VotedLent}
use Rattle.ro_coop_lease.specs.declared.Lent.{Lent}
use Rattle.ro_legal.specs.Core.{Job, Core, is_idle, may_vote, may_free, lease_of}
use Rattle.ro_legal.specs.Jobs.{CanRun}
use Rattle.ro_legal.specs.Legal.{EndsFree}
use Rattle.ro_legal.specs.Laws.{HasLease}
use Rattle.ro_legal.specs.Lent.{IsOfJob}
use Rattle.ro_legal.specs.Parts.{Whole, Pages, is_calm, seen_pages}
use Rattle.ro_legal.specs.Modes.{InMode}
use Rattle.ro_legal.specs.Cooperative.{peer_in}
use Rattle.ro_legal.specs.Rules.{IsFit, Legal, IsAllowed, EndsVote, EndsScrub, output_of}
use Rattle.ro_core.specs.Seen.{CoreOf, Appends, IsLaneOfJob}
use Rattle.ro_cores.specs.Cores.{left_by}
use Rattle.ro_cores.specs.Loans.{LentOf, IsJoined, lease_in, mutexes_in}
use Rattle.ro_audit.specs.declared.follower.InPlace.{InPlace}
use Rattle.ro_audit.specs.declared.follower.InPlace.TheVariants.{OfVote, OfFree, OfScrub}
use Rattle.ro_audit.specs.declared.follower.Walk.{Walk}
use Rattle.ro_audit.specs.declared.follower.Walk.TheVariants.{Stopped}
use Rattle.ro_audit.specs.declared.follower.Walk.TheVariants as walks
use Rattle.ro_audit.specs.declared.follower.Why.{Why}
use Rattle.ro_audit.specs.declared.follower.Why.TheVariants.{Comes}
use Rattle.ro_audit.specs.Audits.{FirstIllegal, IsRefused, NextUpTo, got_in, scrubs}

-- ---- what is lent

-- a whole replica that is lent: its lease is out, and it is the core's
pub record LendsWhole (job : Job) (core : Core) (lease : Lease) (value : ReplicaOf) : Type 0 where
  pub out : HasLease core lease.driver lease Whole (replica_of value)
  pub program : IsOfJob job core.kernel value

-- A thread that is lent with some pages of its replica: its lease is out, they are as they were in the replica when it was taken, and
-- no fault of the thread is due in a quantum.
pub record LendsPages (job : Job) (core : Core) (lease : Lease) (lane : LaneOf) : Type 0 where
  pub pages : List ℕ
  pub taken : Replica
  pub out : HasLease core lease.driver lease (Pages pages) taken
  pub program : IsLaneOfJob job core.kernel lane
  pub began : slice_get taken.threads lease.thread ≡ Some lane.thread
  pub has : has_page lane.held.pages ≡ seen_pages (Pages pages) taken.backed
  pub same : SameIn (has_page lane.held.pages) (memory_of lane.held.pages) taken.memory
  pub low : (page : ℕ) → has_page lane.held.pages page ≡ true → page < 2 ^ 20
  pub calm : is_calm job.settings.quantum lease.thread taken lane.thread ≡ true

abbrev pub LendsLoan : Job → Core → Lease → Loan → Type 0
LendsLoan job core lease (loans.Whole value) = LendsWhole job core lease value
LendsLoan job core lease (loans.Part lane) = LendsPages job core lease lane

-- what is lent of a replica, which can run for a quantum
pub record LendsReplica (job : Job) (core : Core) (lent : VotedLent) : Type 0 where
  pub quantum_is : lent.quantum ≡ job.settings.quantum
  pub goes : CanGo lent
  pub loan : LendsLoan job core lent.lease lent.loan

-- a peer that is lent: its lease is out, it is the core's, and its thread can run for the quantum
pub record LendsPeer (job : Job) (core : Core) (lent : Lent) : Type 0 where
  pub quantum_is : lent.quantum ≡ job.settings.quantum
  pub program : IsOfJob job core.kernel lent.partner.peer.replica
  pub held : lease_of core lent.lease.driver ≡ Some lent.lease
  pub there : peer_in core lent.lease.replica ≡ Some (peer_of lent.partner.peer)
  pub going : IsTrue (is_unstopped lent.lease.thread (replica_of lent.partner.peer.replica))
  pub countable : CanCount job.settings.quantum lent.partner.peer.replica lent.lease.thread
  pub faultless : lent.partner.peer.replica.waiting ≡ []
  pub ceilings : length lent.partner.ceilings.items ≡ length lent.partner.peer.mutexes
  pub not_ended : core.ended ≡ None

-- what is lent by the rules of the job's mode
abbrev pub Lends : Job → Core → LentOf → Type 0
Lends job core (inl lent) = (job.settings.mode ≡ Voted) × LendsReplica job core lent
Lends job core (inr lent) = (job.settings.mode ≡ Cooperative) × LendsPeer job core lent

-- a driver's slot: what is lent to it, if anything is
abbrev pub Slot : Job → Core → (driver : ℕ) → Option LentOf → Type 0
Slot job core driver None = is_idle core driver ≡ true
Slot job core driver (Some lent) = ((lease_in lent).driver ≡ driver) × Lends job core lent

-- ---- what was got

-- the rows of these mutexes, by their numbers, are just what was got
pub record AreGot (mutexes : List Mutex) (gets : List Get) (rows : Rows) : Type 0 where
  pub in_rows : InRows (by_address mutexes rows) gets
  pub among : (number rank thread : ℕ) → rows number rank ≡ Some thread → IsAmong mutexes gets number rank thread

-- in a cooperative run the rows are what the journal's leases got
abbrev pub KnowsGot : Job → List Entry → Rows → Type 0
KnowsGot job journal rows = InMode job.settings.mode ⊤ (AreGot (mutexes_in job journal) (got_in job journal) rows)

-- ---- the follower

-- a core that has made the entries of a journal, what is lent, what was got, and what the entries wrote
pub record Follows (core : CoreOf) (lent : List (Option LentOf)) (rows : Rows) (output : List ℕ) : Type 0 where
  pub can_run : CanRun core.job
  pub fit : IsFit core.job
  pub legal : Legal core.job core.journal
  pub output_is : output ≡ output_of core.job core.journal
  pub drivers : length lent ≡ core.job.settings.drivers
  pub slots : (driver : ℕ) → Slot core.job (left_by core) driver (slice_index_or lent driver None)
  pub got : KnowsGot core.job core.journal rows

-- the entry was followed, or it is not allowed, and why
abbrev pub Followed : CoreOf → Entry → Option Why → CoreOf → List (Option LentOf) → Rows → List ℕ → Type 0
Followed old entry None core lent rows output = IsAllowed old.job (left_by old) entry × Appends old core entry × Follows core lent rows output
Followed old entry (Some why) core lent rows output = IsRefused old.job old.journal entry why

-- it is what came, or that is why it is not allowed
abbrev pub IsUnless : (came entry : Entry) → Option Why → Type 0
IsUnless came entry None = came ≡ entry
IsUnless came entry (Some why) = (why ≡ Comes came) × (came ≢ entry)

-- in the place of what the run would end so
abbrev pub IsInPlace : Job → Core → How → InPlace → Type 0
IsInPlace job core how (OfVote thread) = (may_vote core thread ≡ true) × EndsVote job core thread how
IsInPlace job core how (OfFree thread) = (may_free job core thread ≡ true) × EndsFree job core how
IsInPlace job core how OfScrub = (scrubs job core ≡ true) × EndsScrub job core how

-- no vote on the thread and no free of it would end so
abbrev pub NotByThread : Job → Core → How → (thread : ℕ) → Type 0
NotByThread job core how thread = (may_vote core thread ≡ true → EndsVote job core thread how → ⊥) × (may_free job core thread ≡ true → EndsFree job core how → ⊥)

-- no vote, no free and no scrub would end so
pub record NotInPlace (job : Job) (core : Core) (how : How) : Type 0 where
  pub threads : (thread : ℕ) → thread < 16 → NotByThread job core how thread
  pub scrub : scrubs job core ≡ true → EndsScrub job core how → ⊥

-- the same journal, with nothing but room and views of its own
pub record Same (old new : CoreOf) : Type 0 where
  pub job : new.job ≡ old.job
  pub journal : new.journal ≡ old.journal

-- the entry comes next in a journal that was followed so far
pub record AtEntry (core : CoreOf) (journal : List Entry) (place : ℕ) (entry : Entry) : Type 0 where
  pub rest : List Entry
  pub journal_is : journal ≡ core.journal ++ entry ∷ rest
  pub place_is : length core.journal ≡ place

-- what became of a journal: all of it was followed, and where it is not what comes next, or an entry is not allowed
abbrev pub Walked : Job → List Entry → Walk → CoreOf → (output : List ℕ) → Type 0
Walked job journal (walks.Whole odd) core output = (core.journal ≡ journal) × (output ≡ output_of job journal) × IsJoined job journal × NextUpTo job journal odd
Walked job journal (Stopped place why) core output = FirstIllegal job journal place why

-- ---- the trail

-- where the following of a journal ended, what its entries wrote, and what became of it
pub record TrailOf : Type 0 where
  pub core : CoreOf
  pub output : List ℕ
  pub walk : Walk

-- the trail of a journal of a job
pub record IsTrail (job : Job) (journal : List Entry) (trail : TrailOf) : Type 0 where
  pub job_is : trail.core.job ≡ job
  pub walked : Walked job journal trail.walk trail.core trail.output
