-- The unreplicated machine that a journal names, and replicas that agree with it.
use Rattle.std.specs.Prelude.{◌≡◌, ℕ, suc, ◌<◌, false, IsTrue, List, [], ◌∷◌, ◌++◌, replicate, Option, Some, None, slice_get}
use Rattle.ro_event.specs.declared.stops.Stop.{Stop}
use Rattle.ro_journal.specs.declared.Lease.{Lease}
use Rattle.ro_journal.specs.declared.Entry.{Entry}
use Rattle.ro_journal.specs.declared.Entry.TheVariants.{Put}
use Rattle.ro_journal.specs.Plan.{plan_of}
use Rattle.ro_kernel.specs.Kernel.{lives_on}
use Rattle.ro_thread.specs.declared.Thread.{Thread}
use Rattle.ro_replica.specs.Replica.{Replica}
use Rattle.ro_replica.specs.Runs.{standing_in}
use Rattle.ro_plain.specs.Machine.{layout_in, Machine, opening, BackedRun, run}
use Rattle.ro_vote.specs.Numbers.{is_among, AtMostHalf}
use Rattle.ro_legal.specs.Core.{Job}
use Rattle.ro_legal.specs.Legal.{replay}

-- the machine after the journal's plan, where its steps exist
abbrev pub ideal : Job → List Entry → Option Machine
ideal job journal = run job.program (opening job.program) (plan_of journal)

-- thread 0 as often as it has run since its last release, then thread 1, and so on
abbrev pub ahead_from : (number : ℕ) → List Thread → List ℕ
ahead_from number [] = []
ahead_from number (thread ∷ threads) = replicate thread.since number ++ ahead_from (suc number) threads

abbrev pub ahead : Replica → List ℕ
ahead replica = ahead_from 0 replica.threads

-- The replica is the ideal machine, run ahead by plain instructions and nothing else. What it ran ahead touched only
-- pages that are backed in it: a struck replica that slipped past a page fault is not alike, even where its bytes are.
pub record IsAlike (job : Job) (journal : List Entry) (replica : Replica) : Type 0 where
  pub machine : Machine
  pub ideal_is : ideal job journal ≡ Some machine
  pub goes_on : machine.ended ≡ None
  pub end : Machine
  pub runs : BackedRun job.program replica.backed machine (ahead replica) end
  pub same_memory : replica.memory ≡ end.memory
  pub same_cpus : (number : ℕ) (thread : Thread) → IsTrue (lives_on machine.kernel number) → slice_get replica.threads number ≡ Some thread → slice_get end.cpus number ≡ Some thread.cpu
  pub stops_stand : (number : ℕ) (thread : Thread) (stop : Stop) → IsTrue (lives_on machine.kernel number) → slice_get replica.threads number ≡ Some thread → thread.stop ≡ Some stop → standing_in (layout_in job.program machine.kernel) job.settings.watchdog replica thread ≡ Some stop

-- every replica but those of these numbers is alike
abbrev pub AllAlikeBut : Job → List Entry → List ℕ → Type 0
AllAlikeBut job journal odds = (number : ℕ) (replica : Replica) → is_among odds number ≡ false → slice_get (replay job journal).replicas number ≡ Some replica → IsAlike job journal replica

-- Beside the replica that is struck only these may differ, and with it they are at most half of all: none of two or three.
pub record StrikesApart (job : Job) (before : List Entry) (struck : ℕ) : Type 0 where
  pub others : List ℕ
  pub few : AtMostHalf job.settings.replicas (struck ∷ others)
  pub alike : AllAlikeBut job before (struck ∷ others)

-- faults strike no replica while so many others differ from the ideal that with it they would be more than half
abbrev pub StaysApart : Job → List Entry → Type 0
StaysApart job journal =
    (before rest : List Entry) (lease : Lease) (count hit : ℕ) →
    journal ≡ before ++ Put lease count hit ∷ rest → 0 < hit → StrikesApart job before lease.replica
