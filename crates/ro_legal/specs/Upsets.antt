-- Journals along which a replica is corrupted, whatever becomes of it.
use Rattle.std.specs.Prelude.{◌≡◌, ℕ, suc, ◌<◌, ◌≤◌, ◌⊎◌, Bool, true, false, IsTrue, IsSome, List, [], ◌∷◌, ◌++◌, length, Option, Some, None, slice_get, slice_set, if◌then◌else◌}
use Rattle.ro_event.specs.declared.stops.Stop.{Stop}
use Rattle.ro_faults.specs.declared.Fault.{Fault}
use Rattle.ro_journal.specs.declared.Lease.{Lease}
use Rattle.ro_journal.specs.declared.Entry.{Entry}
use Rattle.ro_journal.specs.declared.Entry.TheVariants.{Put, Part}
use Rattle.ro_thread.specs.declared.Thread.{Thread}
use Rattle.ro_replica.specs.Replica.{Replica}
use Rattle.ro_vote.specs.Numbers.{is_among}
use Rattle.ro_legal.specs.Core.{Job, Core, opening_core, is_out}
use Rattle.ro_legal.specs.Legal.{after, IsAllowed, core_after_lease, faulted, wishing, missing}
use Rattle.ro_legal.specs.Action.{IsNext}
use Rattle.ro_legal.specs.Sound.{Listed}

-- ---- what may become of a replica

-- A replica of the same program in the place of another: its memory, registers, pcs, counts of instructions and stops are whatever they
-- are. The pages that are backed and the threads that were made are as they were, no thread has run longer since its release
-- than the watchdog lets it, and it waits for no other faults.
pub record HasShape (watchdog : ℕ) (old now : Replica) : Type 0 where
  pub backed : now.backed ≡ old.backed
  pub made : length now.threads ≡ length old.threads
  pub watched : (place : ℕ) (thread : Thread) → slice_get now.threads place ≡ Some thread → thread.since ≤ watchdog
  pub waiting : (fault : Fault) → Listed now.waiting fault → Listed old.waiting fault

-- how a lease comes back: after so many instructions and strikes, with a stop or none, or for the want of a page
pub record Return : Type 0 where
  pub parts : Bool
  pub count : ℕ
  pub hit : ℕ
  pub stop : Option Stop
  pub page : Option ℕ

-- ---- a journal with what went wrong between its entries, and in them

-- An entry; or a replica becomes another one; or a lease comes back whose run was no run of its replica, and this is
-- what its replica is behind it.
pub data Moment : Type 0 where
  Comes : Entry → Moment
  Upsets : (number : ℕ) → Replica → Moment
  Gives : Lease → Return → Replica → Moment

-- the entry of a lease that comes back so
abbrev pub return_entry : Lease → Return → Entry
return_entry lease back = if back.parts then Part lease back.count back.hit else Put lease back.count back.hit

-- the entries
abbrev pub journal_of : List Moment → List Entry
journal_of [] = []
journal_of (Comes entry ∷ moments) = entry ∷ journal_of moments
journal_of (Upsets number now ∷ moments) = journal_of moments
journal_of (Gives lease back now ∷ moments) = return_entry lease back ∷ journal_of moments

-- the journal in which nothing is corrupted but by listed faults
abbrev pub all_come : List Entry → List Moment
all_come [] = []
all_come (entry ∷ journal) = Comes entry ∷ all_come journal

-- ---- what each moment does

-- the core with another replica in the place of one
abbrev pub upset : Core → (number : ℕ) → Replica → Core
upset core number now = record core { replicas = slice_set core.replicas number now }

-- the core behind a lease that came back so
abbrev pub given : Core → Lease → Return → Replica → Core
given core lease back now =
    core_after_lease core lease back.stop (wishing lease.replica lease.thread back.page core.wishes)
    (if back.parts then missing lease.replica lease.thread core.misses else core.misses) now

-- the core behind a moment
abbrev pub behind : Job → Core → Moment → Core
behind job core (Comes entry) = after job core entry
behind job core (Upsets number now) = upset core number now
behind job core (Gives lease back now) = given core lease back now

abbrev pub behind_all : Job → Core → List Moment → Core
behind_all job core [] = core
behind_all job core (moment ∷ moments) = behind_all job (behind job core moment) moments

-- the core that moments leave
abbrev pub core_of : Job → List Moment → Core
core_of job moments = behind_all job (opening_core job) moments

-- ---- which moments are possible

-- a replica that is there, in whose place this one may come
pub record MayUpset (job : Job) (core : Core) (number : ℕ) (now : Replica) : Type 0 where
  pub not_ended : core.ended ≡ None
  pub old : Replica
  pub there : slice_get core.replicas number ≡ Some old
  pub shape : HasShape job.settings.watchdog old now

-- a put: after a whole quantum with no stop, or before with one; its page is the one at whose fault it stops
pub record ReturnsPut (job : Job) (back : Return) : Type 0 where
  pub whole : back.parts ≡ false
  pub faults_at : back.page ≡ faulted back.stop
  pub arrives : ((back.count ≡ job.settings.quantum) × (back.stop ≡ None)) ⊎ ((back.count < job.settings.quantum) × IsSome back.stop)

-- a part: before a whole quantum, with no stop, for the want of a page
pub record ReturnsPart (job : Job) (back : Return) : Type 0 where
  pub parted : back.parts ≡ true
  pub early : back.count < job.settings.quantum
  pub unstopped : back.stop ≡ None
  pub wants : IsSome back.page

-- a lease that is out may come back so, with its replica as it is then
pub record MayGive (job : Job) (core : Core) (lease : Lease) (back : Return) (now : Replica) : Type 0 where
  pub upsets : MayUpset job core lease.replica now
  pub out : IsTrue (is_out core lease)
  pub so : ReturnsPut job back ⊎ ReturnsPart job back

-- a moment is possible in the core
abbrev pub IsPossible : Job → Core → Moment → Type 0
IsPossible job core (Comes entry) = IsAllowed job core entry
IsPossible job core (Upsets number now) = MayUpset job core number now
IsPossible job core (Gives lease back now) = MayGive job core lease back now

-- each moment is possible in the core that those before it leave
abbrev pub PossibleFrom : Job → Core → List Moment → Type 0
PossibleFrom job core [] = Unit {0}
PossibleFrom job core (moment ∷ moments) = IsPossible job core moment × PossibleFrom job (behind job core moment) moments

abbrev pub Possible : Job → List Moment → Type 0
Possible job moments = PossibleFrom job (opening_core job) moments

-- each entry is what the core does next, but for a lease that comes back, which may at any time
abbrev pub AreNextFrom : Job → Core → List Moment → Type 0
AreNextFrom job core [] = Unit {0}
AreNextFrom job core (Comes entry ∷ moments) = IsNext job core entry × AreNextFrom job (after job core entry) moments
AreNextFrom job core (Upsets number now ∷ moments) = AreNextFrom job (upset core number now) moments
AreNextFrom job core (Gives lease back now ∷ moments) = AreNextFrom job (given core lease back now) moments

-- What a lease gave could have been anything, and was this.
pub record IsGiven (job : Job) (core : Core) (entry : Entry) (lease : Lease) : Type 0 where
  pub back : Return
  pub now : Replica
  pub same_entry : return_entry lease back ≡ entry
  pub may : MayGive job core lease back now
  pub same : after job core entry ≡ given core lease back now

-- ---- which replica is corrupted

-- the replica that a moment corrupts, be it by a listed fault
abbrev pub corrupted_in : Moment → Option ℕ
corrupted_in (Comes (Put lease count (suc hit))) = Some lease.replica
corrupted_in (Comes entry) = None
corrupted_in (Upsets number now) = Some number
corrupted_in (Gives lease back now) = Some lease.replica

-- no moment corrupts another replica than these
abbrev pub CorruptsOnly : List ℕ → List Moment → Type 0
CorruptsOnly named moments =
    (before rest : List Moment) (moment : Moment) (corrupted : ℕ) → moments ≡ before ++ moment ∷ rest → corrupted_in moment ≡ Some corrupted →
    is_among named corrupted ≡ true
