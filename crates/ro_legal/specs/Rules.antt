-- The rules of a job's run, which are those of its mode.
use Rattle.std.specs.Prelude.{ℕ, List, Option}
use Rattle.ro_journal.specs.declared.How.{How}
use Rattle.ro_journal.specs.declared.Entry.{Entry}
use Rattle.ro_legal.specs.Core.{Job, Core}
use Rattle.ro_legal.specs.Modes as mode

-- what a job of its mode has none of
abbrev pub IsFit : Job → Type 0
IsFit job = mode.Suits job.settings.mode job

abbrev pub opening_core : Job → Core
opening_core job = mode.opening_core job.settings.mode job

-- the core after an entry
abbrev pub after : Job → Core → Entry → Core
after job core entry = mode.after job.settings.mode job core entry

-- the core that a journal leaves
abbrev pub replay : Job → List Entry → Core
replay job journal = mode.replay job.settings.mode job journal

-- the same while a failing sink's end is due: it took so many bytes of the last write
abbrev pub replay_with : Job → List Entry → Option ℕ → Core
replay_with job journal failed = mode.replay_with job.settings.mode job journal failed

-- the output that a journal wrote
abbrev pub output_of : Job → List Entry → List ℕ
output_of job journal = mode.output_of job.settings.mode job journal

-- the entry is allowed in the core
abbrev pub IsAllowed : Job → Core → Entry → Type 0
IsAllowed job core entry = mode.IsAllowed job.settings.mode job core entry

abbrev pub Legal : Job → List Entry → Type 0
Legal job journal = mode.Legal job.settings.mode job journal

-- the end in the place of an enabled vote on the thread
abbrev pub EndsVote : Job → Core → (thread : ℕ) → How → Type 0
EndsVote job core thread how = mode.EndsVote job.settings.mode job core thread how

-- the end in the place of an enabled scrub
abbrev pub EndsScrub : Job → Core → How → Type 0
EndsScrub job core how = mode.EndsScrub job.settings.mode core how

-- the entry decides the vote on a thread: the vote itself, or an end in its place
abbrev pub DecidesVote : Job → Core → (thread : ℕ) → Entry → Type 0
DecidesVote job core thread entry = mode.DecidesVote job.settings.mode job core thread entry

-- the entry frees a thread, or is an end in its place
abbrev pub DecidesFree : Job → Core → (thread : ℕ) → Entry → Type 0
DecidesFree job core thread entry = mode.DecidesFree job.settings.mode job core thread entry

-- the entry is a scrub, or an end in its place
abbrev pub DecidesScrub : Job → Core → Entry → Type 0
DecidesScrub job core entry = mode.DecidesScrub job.settings.mode core entry

-- the entry is what the core does next, or the end that comes in its place; a lease comes back at any time
abbrev pub IsNext : Job → Core → Entry → Type 0
IsNext job core entry = mode.IsNext job.settings.mode job core entry

-- each entry of a journal came next
abbrev pub EachIsNext : Job → List Entry → Type 0
EachIsNext job journal = mode.EachIsNext job.settings.mode job journal
