-- What legal journals keep, struck or not.
use Rattle.std.specs.Prelude.{◌≡◌, ◌≤◌, ◌<◌, ◌^◌, ℕ, true, false, List, [], length, Option, Some, None, is_some, slice_get}
use Rattle.ro_event.specs.Effects.{Effect}
use Rattle.ro_event.specs.declared.traps.TrapCause.{TrapCause}
use Rattle.ro_event.specs.declared.stops.Stop.{Stop}
use Rattle.ro_event.specs.declared.stops.Stop.TheVariants.{PageFault}
use Rattle.ro_event.specs.declared.calls.Call.{Call}
use Rattle.ro_event.specs.declared.calls.Which.TheVariants.{Function}
use Rattle.ro_event.specs.declared.functions.Function.TheVariants.{Wait}
use Rattle.ro_journal.specs.declared.How.{How}
use Rattle.ro_journal.specs.declared.How.TheVariants.{Exit, Trap}
use Rattle.ro_faults.specs.declared.Fault.{Fault}
use Rattle.ro_condition.specs.Waiters.{wait_of}
use Rattle.ro_kernel.specs.Kernel.{lives_on}
use Rattle.ro_exec.specs.Next.{Backed}
use Rattle.ro_thread.specs.declared.Thread.{Thread}
use Rattle.ro_replica.specs.Replica.{Replica}
use Rattle.ro_legal.specs.Core.{Job, Core}

-- The element stands somewhere in the list.
abbrev pub Listed : {X : Type 0} → List X → X → Type 0
Listed xs x = (place : ℕ) × (slice_get xs place ≡ Some x)

-- What holds of every replica, struck or not.
pub record IsSound (job : Job) (core : Core) (backed : Backed) (number : ℕ) (replica : Replica) : Type 0 where
  pub same_backed : replica.backed ≡ backed
  pub all_made : length replica.threads ≡ length core.kernel.lives
  pub within_watch : (place : ℕ) (thread : Thread) → slice_get replica.threads place ≡ Some thread → thread.since ≤ job.settings.watchdog
  pub own_faults : (fault : Fault) → Listed replica.waiting fault → (fault.replica ≡ number) × Listed job.faults fault

-- The program ended by an exit or a trap.
pub data IsOver : How → Type 0 where
  exits : {status : ℕ} → IsOver (Exit status)
  traps : {cause : TrapCause} → IsOver (Trap cause)

-- What every legal journal keeps of its core.
pub record IsOrdered (job : Job) (core : Core) : Type 0 where
  pub replica_count : length core.replicas ≡ job.settings.replicas
  pub no_sides : core.sides ≡ []
  pub backed : Backed
  pub sound : (number : ℕ) (replica : Replica) → slice_get core.replicas number ≡ Some replica → IsSound job core backed number replica
  pub some_life : 0 < length core.kernel.lives
  pub few_lives : length core.kernel.lives ≤ 16
  pub within_limit : core.steps ≤ job.settings.limit
  pub blocked_live : core.due ≡ None → core.ended ≡ None → (thread : ℕ) (call : Call) → core.blocked thread ≡ Some call → lives_on core.kernel thread ≡ true
  pub waits_begun : core.due ≡ None → core.ended ≡ None → (thread : ℕ) (call : Call) → core.blocked thread ≡ Some call → call.which ≡ Function Wait → is_some (wait_of core.kernel.waiters thread) ≡ true
  pub due_alone : (how : How) → core.due ≡ Some how → core.leases ≡ []
  pub due_over : (how : How) → core.due ≡ Some how → IsOver how
  pub wrote_alone : 0 < core.wrote → core.leases ≡ []

-- no thread of a replica has retired more than so many instructions
abbrev pub Counts : (most : ℕ) → Replica → Type 0
Counts most replica = (place : ℕ) (thread : Thread) → slice_get replica.threads place ≡ Some thread → thread.done ≤ most

-- nor has one of any replica
abbrev pub AreCounted : (most : ℕ) → Core → Type 0
AreCounted most core = (number : ℕ) (replica : Replica) → slice_get core.replicas number ≡ Some replica → Counts most replica

-- a stop for a page is for one of the 2^20 pages, which is not backed
abbrev pub IsFault : Backed → Option Stop → Type 0
IsFault backed o = (page : ℕ) → o ≡ Some (PageFault page) → (page < 2 ^ 20) × (backed page ≡ false)

-- and so is each stop of a replica
abbrev pub HasFaults : Replica → Type 0
HasFaults replica = (place : ℕ) (thread : Thread) → slice_get replica.threads place ≡ Some thread → IsFault replica.backed thread.stop

-- no thread stands at the fault of a page that is backed
abbrev pub FaultsWait : List Replica → Type 0
FaultsWait replicas = (number : ℕ) (replica : Replica) → slice_get replicas number ≡ Some replica → HasFaults replica

-- the effect backs no page
pub record BacksNone (effect : Effect) : Type 0 where
  pub page : effect.page ≡ None
  pub bytes : effect.bytes ≡ []
