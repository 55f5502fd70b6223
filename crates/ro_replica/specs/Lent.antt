-- A lane: a thread that is lent with some of its replica's pages, and what comes back of it.
use Rattle.std.specs.Prelude.{◌≡◌, ◌<◌, ◌≤◌, ℕ, ◌+◌, Bool, true, false, ◌&&◌, List, [], ◌++◌, Option, Some, None, slice_get, slice_set}
use Rattle.std.specs.List.{filter}
use Rattle.std.specs.Option.{option_and_then}
use Rattle.std.specs.Ordering.{nat_cmp}
use Rattle.std.specs.FinMap as map
use Rattle.std.specs.FinMap.{FinMap}
use Rattle.ro_event.specs.declared.stops.Stop.{Stop}
use Rattle.ro_event.specs.declared.stops.Stop.TheVariants.{PageFault}
use Rattle.ro_region.specs.declared.Range.{Range}
use Rattle.ro_pages.specs.Bytes.{Memory}
use Rattle.ro_region.specs.Permission.{is_writable}
use Rattle.ro_pages.specs.Directories.{is_listed}
use Rattle.ro_pages.specs.Held.{Held, memory_of, has_page}
use Rattle.ro_exec.specs.Next.{Layout, Backed}
use Rattle.ro_exec.specs.Parts.{SameIn, with_part, IsMore}
use Rattle.ro_image.specs.Image.{Image}
use Rattle.ro_thread.specs.declared.Thread.{Thread}
use Rattle.ro_thread.specs.Runs.{IsRun}
use Rattle.ro_thread.specs.Stops.{standing}
use Rattle.ro_thread.specs.Parts.{missed}
use Rattle.ro_replica.specs.Replica.{Replica, changed_at}
use Rattle.ro_replica.specs.Runs.{RanTo, is_due, run_of, with_stop}
use Rattle.ro_replica.specs.Seen.{ReplicaOf, Runs}

-- What is lent is of the replica as it is: the thread, the bytes of the pages, which are backed. No fault of the thread is
-- due within so many instructions.
pub record LentIn (lent : Backed) (thread count : ℕ) (part : Memory) (begun : Thread) (replica : Replica) : Type 0 where
  pub there : slice_get replica.threads thread ≡ Some begun
  pub backed : IsMore lent replica.backed
  pub same : SameIn lent part replica.memory
  pub calm : (k : ℕ) → k ≤ count → filter (is_due thread (begun.done + k)) replica.waiting ≡ []

-- the replica with the pages and the thread that came back, and a stop at which the thread stands still, or none
abbrev pub put_back : (thread : ℕ) → (lent : Backed) → (after : Memory) → (end : Thread) → Option Stop → Replica → Replica
put_back thread lent after end stop replica = record replica {
  memory = with_part lent after replica.memory;
  threads = slice_set replica.threads thread (with_stop stop end);
}

-- A run that comes back for the want of a page: one that is backed, and at whose fault the thread stands with the pages that
-- it was lent.
pub record RunsOut (layout : Layout) (watchdog quantum thread : ℕ) (lent : Backed) (old new : Replica) (count hit page : ℕ) : Type 0 where
  pub end : RanTo
  pub runs : run_of layout watchdog count old thread ≡ Some end
  pub hit_is : end.hit ≡ hit
  pub new_is : new ≡ record end.replica { threads = changed_at (with_stop None) end.replica.threads thread }
  pub early : count < quantum
  pub backed : end.replica.backed page ≡ true
  pub wants : option_and_then (λ t. standing layout watchdog lent end.replica.memory t.cpu t.since) (slice_get end.replica.threads thread) ≡ Some (PageFault page)

-- a lane as contracts see it
pub record LaneOf : Type 0 where
  pub layout : Layout
  pub given : List Range  -- the ranges that were given since the opening, the newest first
  pub watchdog : ℕ
  pub held : Held
  pub moved : List ℕ  -- those of its pages that have left the replica for the time
  pub thread : Thread

-- A lane for a replica: it is of the same program, and was perhaps given fewer ranges since the opening.
pub record IsLaneFor (lane : LaneOf) (replica : ReplicaOf) : Type 0 where
  pub first : List Range
  pub lane_has : lane.layout.ranges ≡ lane.given ++ first
  pub replica_has : replica.layout.ranges ≡ replica.given ++ first
  pub calls : lane.layout.calls ≡ replica.layout.calls

-- a lane with no page, for replicas of the program of an image
pub record IsSpareLane (image : Image) (lane : LaneOf) : Type 0 where
  pub ranges : lane.layout.ranges ≡ lane.given ++ image.ranges
  pub calls : lane.layout.calls ≡ image.calls
  pub none : lane.held.numbers ≡ []

-- the lane has what never changes in a run as the replica has it now
pub record HasProgram (lane : LaneOf) (replica : ReplicaOf) : Type 0 where
  pub layout : lane.layout ≡ replica.layout
  pub given : lane.given ≡ replica.given
  pub watchdog : lane.watchdog ≡ replica.watchdog

-- Pages that a memory has lent to one of a few: those that were wished for and that it had, with their bytes. Of those of which
-- a byte may be written nothing is said in the memory for the time, and all others have the bytes there that they had.
pub record AreLent (ranges : List Range) (wished : ℕ → Bool) (home home_now few : FinMap nat_cmp (List ℕ)) (moved : List ℕ) : Type 0 where
  pub just : (page : ℕ) → has_page few page ≡ (wished page && has_page home page)
  pub bytes : (page : ℕ) → has_page few page ≡ true → map.get few page ≡ map.get home page
  pub left : (page : ℕ) → is_listed moved page ≡ (has_page few page && is_writable ranges page)
  pub stay : (page : ℕ) → is_listed moved page ≡ false → map.get home_now page ≡ map.get home page

-- what never changes is the same
pub record SameProgramOf (one other : LaneOf) : Type 0 where
  pub layout : one.layout ≡ other.layout
  pub given : one.given ≡ other.given
  pub watchdog : one.watchdog ≡ other.watchdog

-- A lane behind a run of so many instructions, over the pages that it was lent. Its thread is what the run made of it, and stands
-- at the stop that is kept.
pub record LaneRuns (quantum count : ℕ) (before after : LaneOf) : Type 0 where
  pub pages : has_page after.held.pages ≡ has_page before.held.pages
  pub runs : IsRun before.layout before.watchdog (has_page before.held.pages) quantum count after.thread.stop
      (record { thread = before.thread; memory = memory_of before.held.pages })
      (record { thread = with_stop before.thread.stop after.thread; memory = memory_of after.held.pages })

-- What comes back of a lease that was run: a put of its replica as that is by then, or, for the want of a page, a part.
pub record ComesHome (quantum thread count : ℕ) (stop : Option Stop) (lane after : LaneOf) (replica : Replica) : Type 0 where
  pub put : missed replica.backed stop ≡ None → Runs lane.layout lane.watchdog quantum thread replica (put_back thread (has_page lane.held.pages) (memory_of after.held.pages) after.thread stop replica) count 0 stop
  pub part : (page : ℕ) → missed replica.backed stop ≡ Some page → RunsOut lane.layout lane.watchdog quantum thread (has_page lane.held.pages) replica (put_back thread (has_page lane.held.pages) (memory_of after.held.pages) after.thread None replica) count 0 page
