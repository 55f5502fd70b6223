-- What every legal cooperative journal keeps of its core.
use Rattle.std.specs.Prelude.{◌≡◌, ℕ, ◌+◌, ◌*◌, ◌<◌, ◌≤◌, true, false, List, [], map, length, Some, None, is_some, slice_get, if◌then◌else◌}
use Rattle.ro_event.specs.declared.calls.Call.{Call}
use Rattle.ro_event.specs.declared.calls.Which.TheVariants.{Function}
use Rattle.ro_event.specs.declared.functions.Function.TheVariants.{Wait}
use Rattle.ro_event.specs.Functions.{functions}
use Rattle.ro_condition.specs.Waiters.{wait_of}
use Rattle.ro_journal.specs.declared.How.{How}
use Rattle.ro_mutex.specs.Owners.{Owners}
use Rattle.ro_journal.specs.declared.Lease.{Lease}
use Rattle.ro_kernel.specs.Kernel.{Kernel, lives_on}
use Rattle.ro_thread.specs.declared.Thread.{Thread}
use Rattle.ro_replica.specs.Replica.{Replica}
use Rattle.ro_orders.specs.Choices.{has_otherwise}
use Rattle.ro_peer.specs.declared.mutexes.Mutex.{Mutex}
use Rattle.ro_peer.specs.Peers.{Peer}
use Rattle.ro_peer.specs.Gets.{voted}
use Rattle.ro_plain.specs.Machine.{Program}
use Rattle.ro_legal.specs.Sides.{Side, threads_of, rank_in, most_apart, is_ahead}
use Rattle.ro_legal.specs.Core.{Job, Core, lease_of}
use Rattle.ro_legal.specs.Cooperative.{most_done, peer_in}
use Rattle.ro_legal.specs.Sound.{HasFaults, IsOver}

-- What holds of every replica.
pub record IsUnstruck (job : Job) (core : Core) (replica : Replica) : Type 0 where
  pub all_made : length replica.threads ≡ length core.kernel.lives
  pub within_watch : (place : ℕ) (thread : Thread) → slice_get replica.threads place ≡ Some thread → thread.since ≤ job.settings.watchdog
  pub no_faults : replica.waiting ≡ []
  pub faults_wait : HasFaults replica

-- What is kept of replicas, kernel and counts.
pub record KeepsReplicas (job : Job) (core : Core) : Type 0 where
  pub replica_count : length core.replicas ≡ job.settings.replicas
  pub side_count : length core.sides ≡ job.settings.replicas
  pub unstruck : (number : ℕ) (replica : Replica) → slice_get core.replicas number ≡ Some replica → IsUnstruck job core replica
  pub some_life : 0 < length core.kernel.lives
  pub few_lives : length core.kernel.lives ≤ 16
  pub blocked_live : core.due ≡ None → core.ended ≡ None → (thread : ℕ) (call : Call) → core.blocked thread ≡ Some call → lives_on core.kernel thread ≡ true
  pub waits_begun : core.due ≡ None → core.ended ≡ None → (thread : ℕ) (call : Call) → core.blocked thread ≡ Some call → call.which ≡ Function Wait → is_some (wait_of core.kernel.waiters thread) ≡ true
  pub due_alone : (how : How) → core.due ≡ Some how → core.leases ≡ []
  pub due_over : (how : How) → core.due ≡ Some how → IsOver how
  pub wrote_alone : 0 < core.wrote → core.leases ≡ []
  pub done_within : (thread : ℕ) → most_done core.replicas thread ≤ core.steps
  pub steps_within : core.steps ≤ job.settings.limit + 16 * job.settings.watchdog

-- the addresses in the mutex table, in their order
abbrev pub table_of : Owners → List ℕ
table_of owners = map (λ entry. entry.0) owners

-- the addresses of the mutexes whose calls a replica answers
abbrev pub addresses_of : List Mutex → List ℕ
addresses_of mutexes = map (λ mutex. mutex.address) mutexes

-- the addresses of the mutexes that are cooperative: of a program whose mutexes cooperate all that stand in the table, in their order
abbrev pub cooperative_in : Program → Owners → List ℕ
cooperative_in program owners = if has_otherwise program.image.calls.addresses functions then [] else table_of owners

-- What holds of what a replica has beside.
pub record IsCounted (job : Job) (core : Core) (replica : Replica) (side : Side) : Type 0 where
  pub answers_for : addresses_of side.mutexes ≡ cooperative_in job.program core.kernel.owners
  pub ranks_are : (address : ℕ) → length (threads_of address side.gets) ≡ rank_in side.mutexes address
  pub no_own_stops : (place : ℕ) (thread : Thread) → slice_get replica.threads place ≡ Some thread → voted side.mutexes thread.stop ≡ thread.stop

-- What is kept of the mutexes that replicas answer for.
pub record KeepsMutexes (job : Job) (core : Core) : Type 0 where
  pub counted : (number : ℕ) (replica : Replica) (side : Side) → slice_get core.replicas number ≡ Some replica → slice_get core.sides number ≡ Some side → IsCounted job core replica side
  pub few : length core.kernel.owners ≤ 256
  pub apart : (number other : ℕ) (one another : Side) → slice_get core.sides number ≡ Some one → slice_get core.sides other ≡ Some another → (address : ℕ) → rank_in one.mutexes address ≤ rank_in another.mutexes address + most_apart

-- ---- leases

-- The lease of the driver, which is out, its peer, the kernel, and that no end has come.
pub record HasPeer (core : Core) (driver : ℕ) (lease : Lease) (kernel : Kernel) (peer : Peer) : Type 0 where
  pub held : lease_of core driver ≡ Some lease
  pub there : peer_in core lease.replica ≡ Some peer
  pub kernel_is : core.kernel ≡ kernel
  pub not_ended : core.ended ≡ None

-- what is not too far ahead of the one is not of the other
abbrev pub NoFurtherAhead : (before after : List Side) → Type 0
NoFurtherAhead before after = (address rank : ℕ) → is_ahead before address rank ≡ false → is_ahead after address rank ≡ false
