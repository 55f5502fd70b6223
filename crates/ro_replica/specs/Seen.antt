-- A replica as contracts see it.
use Rattle.std.specs.Prelude.{◌≡◌, ◌⊎◌, ℕ, ◌+◌, ◌<◌, ◌≤◌, ◌^◌, IsSome, ◌==◌, if◌then◌else◌, List, [], length, Option, Some, None, IfSome, slice_get, slice_index_or, true}
use Rattle.std.specs.List.{All}
use Rattle.ro_event.specs.declared.stops.Stop.{Stop}
use Rattle.ro_event.specs.Effects.{Effect}
use Rattle.ro_region.specs.declared.Range.{Range}
use Rattle.ro_region.specs.Permission.{with_range}
use Rattle.ro_faults.specs.declared.Fault.{Fault}
use Rattle.ro_faults.specs.Texts.{is_target}
use Rattle.ro_pages.specs.Held.{Held, memory_of as memory_in, has_page}
use Rattle.ro_exec.specs.Next.{Layout}
use Rattle.ro_thread.specs.declared.Thread.{Thread}
use Rattle.ro_image.specs.Image.{Image}
use Rattle.ro_replica.specs.Replica.{Replica, opening_replica, changed_at, recovered}
use Rattle.ro_replica.specs.Runs.{RanTo, run_of, standing_at, with_stop}

pub record ReplicaOf : Type 0 where
  pub layout : Layout
  pub given : List Range  -- the ranges that were given since the opening, the newest first
  pub watchdog : ℕ
  pub held : Held
  pub threads : List Thread
  pub waiting : List Fault

-- the replica that this stands for
abbrev pub replica_of : ReplicaOf → Replica
replica_of value = record { memory = memory_in value.held.pages; backed = has_page value.held.pages; threads = value.threads; waiting = value.waiting }

abbrev pub first_layout : Image → Layout
first_layout image = record { ranges = image.ranges; calls = image.calls }

-- what never changes is the same
pub record SameProgram (one other : ReplicaOf) : Type 0 where
  pub layout : one.layout ≡ other.layout
  pub given : one.given ≡ other.given
  pub watchdog : one.watchdog ≡ other.watchdog

-- what never changes is the same, and one range more is permitted, where there is one
pub record Widens (range : Option Range) (new old : ReplicaOf) : Type 0 where
  pub layout : new.layout ≡ record old.layout { ranges = with_range range old.layout.ranges }
  pub given : new.given ≡ with_range range old.given
  pub watchdog : new.watchdog ≡ old.watchdog

-- the replica of this number at the opening
pub record IsOpening (image : Image) (number : ℕ) (faults : List Fault) (watchdog : ℕ) (value : ReplicaOf) : Type 0 where
  pub layout : value.layout ≡ first_layout image
  pub given : value.given ≡ []
  pub watchdog_is : value.watchdog ≡ watchdog
  pub opening : replica_of value ≡ opening_replica image faults number

-- faults that can be struck: few, and each flips a bit that is there
pub record AreFaults (faults : List Fault) : Type 0 where
  pub few : length faults ≤ 256
  pub each : All (λ fault. is_target fault.target ≡ true) faults

-- What holds of every replica with places for so many threads: no thread has run past the watchdog.
pub record IsReplica (watchdog : ℕ) (threads : List Thread) (places : ℕ) (waiting : List Fault) : Type 0 where
  pub first : 0 < length threads
  pub few : length threads ≤ 16
  pub room : 16 ≤ places
  pub watched : All (λ t. t.since ≤ watchdog) threads
  pub faults : AreFaults waiting

-- the count of the thread has room for so many instructions more
abbrev pub CanCount : (quantum : ℕ) → ReplicaOf → (thread : ℕ) → Type 0
CanCount quantum value thread = IfSome (slice_get value.threads thread) (λ t. t.done + quantum < 2 ^ 128)

-- the stop at which a run arrives: none after a whole quantum
abbrev pub stop_after : Layout → (watchdog quantum thread count : ℕ) → Replica → Option Stop
stop_after layout watchdog quantum thread count replica = if count == quantum then None else standing_at layout watchdog replica thread

-- A run of so many instructions, from one replica to another: no stop stood before the last of them, and the thread
-- has come to a stop or done a whole quantum.
pub record Runs (layout : Layout) (watchdog quantum thread : ℕ) (old new : Replica) (count hit : ℕ) (stop : Option Stop) : Type 0 where
  pub end : RanTo
  pub runs : run_of layout watchdog count old thread ≡ Some end
  pub hit_is : end.hit ≡ hit
  pub stop_is : stop ≡ stop_after layout watchdog quantum thread count end.replica
  pub new_is : new ≡ record end.replica { threads = changed_at (with_stop stop) end.replica.threads thread }
  pub arrives : (count ≡ quantum) ⊎ ((count < quantum) × IsSome stop)

-- An effect that a replica can be given: its threads were made, its bytes are few and lie below the end of the addresses,
-- there are pages to spare, and not all ranges were given before.
pub record CanApply (effect : Effect) (value : ReplicaOf) : Type 0 where
  pub made : effect.thread < length value.threads
  pub creator : IfSome effect.made (λ made. (made.creator < length value.threads) × (length value.threads < 16))
  pub few : length effect.bytes ≤ 4096
  pub within : effect.place + length effect.bytes ≤ 2 ^ 32
  pub page : IfSome effect.page (λ page. page < 2 ^ 20)
  pub spare : 3 ≤ value.held.spare
  pub room : IfSome effect.range (λ range. length value.given < 4096)

-- The second replica can become as the first: the same pages are backed, and the same threads made.
pub record AreTwins (one other : ReplicaOf) : Type 0 where
  pub program : SameProgram one other
  pub pages : (page : ℕ) → has_page one.held.pages page ≡ has_page other.held.pages page
  pub threads : length one.threads ≡ length other.threads

-- What the loser is after it became as the winner.
pub record Recovers (winner old new : ReplicaOf) : Type 0 where
  pub program : SameProgram new old
  pub recovered : replica_of new ≡ recovered (replica_of winner) (replica_of old)
  pub spare : new.held.spare ≡ old.held.spare

-- the same replica, with no fewer pages to spare
pub record Keeps (old new : ReplicaOf) : Type 0 where
  pub program : SameProgram new old
  pub same : replica_of new ≡ replica_of old
  pub spare : old.held.spare ≤ new.held.spare

-- no fault of a thread comes before the moment that stands beside the thread's number
abbrev pub AreLater : (moments : List ℕ) → List Fault → Type 0
AreLater moments faults = All (λ fault. slice_index_or moments fault.thread 0 ≤ fault.at) faults
