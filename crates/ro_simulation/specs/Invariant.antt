-- What every entry of a legal journal keeps.
use Rattle.std.specs.Prelude.{◌≡◌, ℕ, IsTrue, List, [], true, false, length, Some, None, is_some, slice_get}
use Rattle.ro_event.specs.declared.calls.Call.{Call}
use Rattle.ro_event.specs.declared.calls.Which.TheVariants.{Function}
use Rattle.ro_event.specs.declared.functions.Function.TheVariants.{Wait}
use Rattle.ro_event.specs.declared.stops.Stop.{Stop}
use Rattle.ro_event.specs.declared.stops.Stop.TheVariants.{Calls}
use Rattle.ro_journal.specs.declared.How.{How}
use Rattle.ro_journal.specs.declared.Lease.{Lease}
use Rattle.ro_journal.specs.declared.Entry.{Entry}
use Rattle.ro_journal.specs.Plan.{plan_of}
use Rattle.ro_pages.specs.Bytes.{Memory}
use Rattle.ro_condition.specs.Waiters.{wait_of}
use Rattle.ro_kernel.specs.Kernel.{lives_on}
use Rattle.ro_kernel.specs.Serve.{payload_of, is_atomic}
use Rattle.ro_exec.specs.declared.Cpu.{Cpu}
use Rattle.ro_exec.specs.Next.{Backed, Stands}
use Rattle.ro_thread.specs.declared.Thread.{Thread}
use Rattle.ro_replica.specs.Replica.{Replica}
use Rattle.ro_replica.specs.Runs.{standing_in}
use Rattle.ro_plain.specs.Machine.{Program, Machine, BackedRun, next_of, steppable, layout_in}
use Rattle.ro_vote.specs.Numbers.{is_among, AtMostHalf}
use Rattle.ro_legal.specs.Core.{Job, Core, is_out}
use Rattle.ro_legal.specs.Ideal.{ideal, ahead}
use Rattle.ro_legal.specs.Sound.{IsSound, IsOver}
use Rattle.ro_region.specs.declared.Range.{Range}

-- The replica is the machine, run ahead by plain instructions that touch only backed pages.
pub record RunsAhead (job : Job) (machine : Machine) (replica : Replica) : Type 0 where
  pub end : Machine
  pub runs : BackedRun job.program replica.backed machine (ahead replica) end
  pub same_memory : replica.memory ≡ end.memory
  pub same_cpus : (number : ℕ) (thread : Thread) → IsTrue (lives_on machine.kernel number) → slice_get replica.threads number ≡ Some thread → slice_get end.cpus number ≡ Some thread.cpu

-- A stop of a live thread is the one that stands there.
pub record StopStands (job : Job) (machine : Machine) (replica : Replica) (number : ℕ) : Type 0 where
  pub stands : (thread : Thread) (stop : Stop) → IsTrue (lives_on machine.kernel number) → slice_get replica.threads number ≡ Some thread → thread.stop ≡ Some stop → standing_in (layout_in job.program machine.kernel) job.settings.watchdog replica thread ≡ Some stop

-- The replica has run ahead of the machine and nothing else, and each stop in it stands.
pub record Agrees (job : Job) (machine : Machine) (replica : Replica) : Type 0 where
  pub runs_ahead : RunsAhead job machine replica
  pub stops : (number : ℕ) → StopStands job machine replica number

-- A blocked thread stands at its voted call, which writes nothing and is no atomic instruction; a wait has had its first step.
pub record StandsAtCall (program : Program) (machine : Machine) (number : ℕ) (call : Call) : Type 0 where
  pub cpu : Cpu
  pub live : steppable machine number ≡ Some cpu
  pub stands : next_of program machine cpu ≡ Stands (Calls call)
  pub writes_nothing : (ranges : List Range) (memory : Memory) → payload_of ranges memory call ≡ []
  pub plain : is_atomic call.which ≡ false
  pub begun : call.which ≡ Function Wait → is_some (wait_of machine.kernel.waiters number) ≡ true

-- The core stands to the ideal machine as it must; every replica but these, at most half, agrees with it.
pub record TracksIdeal (job : Job) (odds : List ℕ) (journal : List Entry) (core : Core) : Type 0 where
  pub machine : Machine
  pub ideal_is : ideal job journal ≡ Some machine
  pub same_kernel : core.kernel ≡ machine.kernel
  pub same_output : core.output ≡ machine.output
  pub same_end : core.due ≡ machine.ended
  pub steps_are : core.steps ≡ length (plan_of journal)
  pub ends_well : (how : How) → machine.ended ≡ Some how → IsOver how
  pub not_ended : core.ended ≡ None
  pub as_many : length machine.cpus ≡ length machine.kernel.lives
  pub few : AtMostHalf job.settings.replicas odds
  pub replica_count : length core.replicas ≡ job.settings.replicas
  pub no_sides : core.sides ≡ []
  pub backed : Backed
  pub sound : (number : ℕ) (replica : Replica) → slice_get core.replicas number ≡ Some replica → IsSound job core backed number replica
  pub lent_live : (lease : Lease) → IsTrue (is_out core lease) → (machine.ended ≡ None) × IsTrue (lives_on machine.kernel lease.thread)
  pub blocked_stands : (thread : ℕ) (call : Call) → core.blocked thread ≡ Some call → machine.ended ≡ None → StandsAtCall job.program machine thread call
  pub others_agree : machine.ended ≡ None → (number : ℕ) (replica : Replica) → is_among odds number ≡ false → slice_get core.replicas number ≡ Some replica → Agrees job machine replica
