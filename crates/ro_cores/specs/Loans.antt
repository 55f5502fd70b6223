-- What is lent to a driver, a replica or in a cooperative run a peer; what comes back; and what a driver knows of the lock page.
use Rattle.std.specs.Prelude.{◌≡◌, ◌⊎◌, ⊤, ℕ, List, [], ◌∷◌, ◌++◌, Option, Some, None, IsSome, slice_get, if◌then◌else◌, ◌==◌}
use Rattle.std.specs.Option.{option_map_or}
use mathlib.Core.Logic.{inl, inr}
use Rattle.atomic_table.specs.Seated.{TableId}
use Rattle.ro_settings.specs.declared.Mode.TheVariants.{Voted, Cooperative}
use Rattle.ro_journal.specs.declared.Entry.{Entry}
use Rattle.ro_journal.specs.declared.Entry.TheVariants.{Put, Part}
use Rattle.ro_journal.specs.declared.Lease.{Lease}
use Rattle.ro_orders.specs.Copies.{Rows}
use Rattle.ro_peer.specs.declared.mutexes.Mutex.{Mutex}
use Rattle.ro_peer.specs.Gets.{Get, InRows}
use Rattle.ro_lockpage.specs.Pages.{PassOf, Agrees}
use Rattle.ro_locking.specs.Got.{HasGot}
use Rattle.ro_legal.specs.Core.{Job, Core}
use Rattle.ro_legal.specs.Modes.{Mode, InMode}
use Rattle.ro_legal.specs.Cooperative as together
use Rattle.ro_lease.specs.declared.Lent.{Lent as VotedLent}
use Rattle.ro_lease.specs.declared.Back.{Back as VotedBack}
use Rattle.ro_lease.specs.Loans as replicas
use Rattle.ro_coop_lease.specs.declared.Lent.{Lent}
use Rattle.ro_coop_lease.specs.declared.Back.{Back}
use Rattle.ro_coop_lease.specs.Loans as peers
use Rattle.ro_core.specs.Seen as votes
use Rattle.ro_coop_core.specs.Seen as coop
use Rattle.ro_cores.specs.History.{Turned, journal_of}
use Rattle.ro_cores.specs.Cores.{plain_core}

-- ---- a lease's run

-- what a lease has of a replica by votes, or a peer with its lease
abbrev pub LentOf : Type 0
LentOf = VotedLent ⊎ Lent

abbrev pub BackOf : Type 0
BackOf = VotedBack ⊎ Back

-- a driver's pass of the lock page, in a cooperative run
abbrev pub ShareOf : Type 0
ShareOf = Option PassOf

abbrev pub lease_in : LentOf → Lease
lease_in (inl lent) = lent.lease
lease_in (inr lent) = lent.lease

abbrev pub lease_of : BackOf → Lease
lease_of (inl back) = back.lease
lease_of (inr back) = back.lease

-- the entry with which it comes back to a core
abbrev pub entry_of : Core → BackOf → Entry
entry_of core (inl back) = votes.return_of core back
entry_of core (inr back) = coop.return_of back.lease back.took.count back.took.came

-- the entry brings this lease back
abbrev pub Returns : Lease → Entry → Type 0
Returns lease entry = (count : ℕ) × (hit : ℕ) × ((entry ≡ Put lease count hit) ⊎ (entry ≡ Part lease count hit))

-- a cooperative core of this job and journal, of which nothing else is said
abbrev pub plain_run : Job → List Entry → coop.RunOf
plain_run job journal = record { job = job; journal = journal; room = 0; views = [] }

-- the core that this journal leaves lends this
abbrev pub IsLent : Job → List Entry → LentOf → Type 0
IsLent job journal (inl lent) = (job.settings.mode ≡ Voted) × (lent.quantum ≡ job.settings.quantum) × votes.IsLent (plain_core job journal) lent.lease.replica lent.lease.thread lent.loan
IsLent job journal (inr lent) = (job.settings.mode ≡ Cooperative) × (lent.quantum ≡ job.settings.quantum) × coop.IsLent (plain_run job journal) lent.lease.replica lent.lease.thread lent.partner

-- its thread can run
abbrev pub CanGo : LentOf → Type 0
CanGo (inl lent) = replicas.CanGo lent
CanGo (inr lent) = peers.CanGo lent

-- what it may become, and the driver's pass by it, of which there is none where a replica is lent
abbrev pub Gives : LentOf → ShareOf → BackOf → ShareOf → Type 0
Gives (inl lent) old (inl back) new = replicas.Gives lent back × (new ≡ old) × (old ≡ None)
Gives (inr lent) (Some old) (inr back) (Some new) = peers.Gives lent old back new
Gives _ _ _ _ = ⊥

-- it may be put back in the core that this journal leaves
abbrev pub MayReturn : Job → List Entry → BackOf → Type 0
MayReturn job journal (inl back) = (job.settings.mode ≡ Voted) × votes.MayReturn (plain_core job journal) back
MayReturn job journal (inr back) =
    (job.settings.mode ≡ Cooperative) × (m : coop.MayReturn (plain_run job journal) back.lease.driver back.partner back.took.count back.took.came) × (m.lease ≡ back.lease)

-- ---- the lock page

-- what drivers share: in a cooperative run a lock page of this name
abbrev pub SharedOf : Type 0
SharedOf = Option TableId

-- drivers share a page in a cooperative run, and nothing else
abbrev pub SharesIn : Mode → SharedOf → Type 0
SharesIn Voted shared = shared ≡ None
SharesIn Cooperative shared = IsSome shared

-- the share of the driver with this number
abbrev pub IsShare : SharedOf → (number : ℕ) → ShareOf → Type 0
IsShare None number None = ⊤
IsShare (Some page) number (Some pass) = (pass.page ≡ page) × (pass.number ≡ number)
IsShare _ _ _ = ⊥

-- a share that was not used
abbrev pub IsUnused : ShareOf → Type 0
IsUnused None = ⊤
IsUnused (Some pass) = (pass.known ≡ []) × (pass.won ≡ [])

-- what a share knows stands in the rows
abbrev pub AgreesWith : Rows → ShareOf → Type 0
AgreesWith rows None = ⊤
AgreesWith rows (Some pass) = Agrees pass.known rows

-- and so for each driver
abbrev pub AllAgreeWith : Rows → List ShareOf → Type 0
AllAgreeWith rows shares = (place : ℕ) (share : ShareOf) → slice_get shares place ≡ Some share → AgreesWith rows share

-- the mutexes for which the replicas answer, in the order in which they became cooperative
abbrev pub mutexes_in : Job → List Entry → List Mutex
mutexes_in job journal = option_map_or (λ side. side.mutexes) (slice_get (together.replay job journal).sides 0) []

-- what a driver's own entries got
abbrev pub gets_along : Job → Core → (number : ℕ) → List Turned → List Get
gets_along job core number [] = []
gets_along job core number (t ∷ history) = (if t.by == number then together.gets_of job core t.entry else []) ++ gets_along job (together.after job core t.entry) number history

abbrev pub gets_by : Job → (number : ℕ) → List Turned → List Get
gets_by job number history = gets_along job (together.opening_core job) number history

-- a driver's pass knows what its own entries got
abbrev pub Knows : Job → (number : ℕ) → List Turned → ShareOf → Type 0
Knows job number history None = ⊤
Knows job number history (Some pass) = HasGot (mutexes_in job (journal_of history)) pass (gets_by job number history)

-- in a cooperative run there are rows in which all that was got stands
abbrev pub IsJoined : Job → List Entry → Type 0
IsJoined job journal = InMode job.settings.mode ⊤ ((rows : Rows) × InRows rows (together.gets_from job (together.opening_core job) journal))
