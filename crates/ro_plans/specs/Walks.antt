-- What a walk over a journal's entries tells, and what it knows of those before.
use Rattle.std.specs.Prelude.{◌≡◌, ℕ, ◌+◌, ◌-◌, ◌*◌, ◌==◌, ◌&&◌, if◌then◌else◌, ◌^◌, ◌<◌, ◌≤◌, List, [], ◌++◌, length, replicate, take, Option, Some, None, slice_index}
use Rattle.ro_settings.specs.declared.Mode.{Mode}
use Rattle.ro_settings.specs.declared.Mode.TheVariants.{Voted, Cooperative}
use Rattle.ro_journal.specs.declared.Lease.{Lease}
use Rattle.ro_journal.specs.declared.Entry.{Entry}
use Rattle.ro_journal.specs.declared.Entry.TheVariants.{Put, Part, Vote, Free}
use Rattle.ro_journal.specs.Plan.{event_steps}
use Rattle.ro_plans.specs.declared.walk.Stretch.{Stretch}
use Rattle.ro_plans.specs.declared.walk.Walk.{Walk}
use Rattle.ro_plans.specs.First.{times, Steps, steps_of}
use Rattle.ro_plans.specs.Plans.{plan_in}

abbrev pub stretch_steps : Option Stretch → List ℕ
stretch_steps None = []
stretch_steps (Some stretch) = replicate stretch.count stretch.thread

-- these are the steps that the entry at a place adds to the plan of those before it
abbrev pub Adds : Mode → (journal : List Entry) → (place : ℕ) → Option Stretch → Type 0
Adds mode journal place told = plan_in mode (take (place + 1) journal) ≡ plan_in mode (take place journal) ++ stretch_steps told

-- so many they are
abbrev pub AddsSoMany : Mode → (journal : List Entry) → (place count : ℕ) → Type 0
AddsSoMany mode journal place count = length (plan_in mode (take (place + 1) journal)) ≡ length (plan_in mode (take place journal)) + count

-- so many of a lease's steps no replica made before
abbrev pub fresh : Lease → (count : ℕ) → Steps → ℕ
fresh lease count steps = (times lease.thread (steps.taken lease.replica) + count) - times lease.thread steps.first

-- how many steps of the thread an entry's event makes in all replicas
abbrev pub served_by : Entry → (thread : ℕ) → ℕ
served_by (Vote voted count won lost did) thread = if voted == thread then event_steps did else 0
served_by (Free freed) thread = if freed == thread then 1 else 0
served_by _ thread = 0

-- how many steps of the thread an entry makes in the replica
abbrev pub made_by : Entry → (replica thread : ℕ) → ℕ
made_by (Put lease count hit) replica thread = if replica == lease.replica && lease.thread == thread then count else 0
made_by (Part lease count hit) replica thread = if replica == lease.replica && lease.thread == thread then count else 0
made_by entry replica thread = served_by entry thread

-- how many steps of the thread it adds to the first ones, behind such steps
abbrev pub first_by : Steps → Entry → (thread : ℕ) → ℕ
first_by steps (Put lease count hit) thread = if lease.thread == thread then fresh lease count steps else 0
first_by steps (Part lease count hit) thread = if lease.thread == thread then fresh lease count steps else 0
first_by steps entry thread = served_by entry thread

-- one thread's number was raised by so many
abbrev pub IsRaised : (old : List ℕ) → (thread by : ℕ) → (new : List ℕ) → Type 0
IsRaised old thread by new = (other : ℕ) → other < 16 → slice_index new other ≡ slice_index old other + (if thread == other then by else 0)

-- and that of a replica's thread
abbrev pub IsMade : (old : List ℕ) → (replica thread by : ℕ) → (new : List ℕ) → Type 0
IsMade old replica thread by new =
    (one other : ℕ) → one < 5 → other < 16 → slice_index new (one * 16 + other) ≡ slice_index old (one * 16 + other) + (if one == replica && thread == other then by else 0)

-- Of five replicas and 16 threads a walk knows by how many steps each replica's thread is behind the first ones: by as many as
-- what its leases made is behind the most that those of a replica made.
pub record Knows (walk : Walk) (steps : Steps) : Type 0 where
  pub behind : (replica thread : ℕ) → replica < 5 → thread < 16 → slice_index walk.most thread + times thread (steps.taken replica) ≡ slice_index walk.made (replica * 16 + thread) + times thread steps.first
  pub most : (thread : ℕ) → thread < 16 → slice_index walk.most thread ≤ times thread steps.first
  pub fits : length steps.first < 2 ^ 64

abbrev pub mode_of : Walk → Mode
mode_of walk = walk.mode

abbrev pub PassedIn : Mode → Walk → List Entry → Type 0
PassedIn Voted walk before = Unit {0}
PassedIn Cooperative walk before = Knows walk (steps_of before)

-- the walk came past these entries; by votes each entry tells its steps by itself
abbrev pub Passed : Walk → List Entry → Type 0
Passed walk before = PassedIn (mode_of walk) walk before
