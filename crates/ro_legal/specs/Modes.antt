-- The rules in a mode: those of votes alone, or those of a cooperative run.
pub use Rattle.ro_settings.specs.declared.Mode.{Mode}
use Rattle.std.specs.Prelude.{◌≡◌, ⊤, ℕ, List, [], Option, Some, None}
use Rattle.ro_settings.specs.declared.Mode.TheVariants.{Voted, Cooperative}
use Rattle.ro_journal.specs.declared.How.{How}
use Rattle.ro_journal.specs.declared.How.TheVariants.{Sink}
use Rattle.ro_journal.specs.declared.Entry.{Entry}
use Rattle.ro_legal.specs.Core.{Job, Core}
use Rattle.ro_legal.specs.Core as voted_core
use Rattle.ro_legal.specs.Legal as votes
use Rattle.ro_legal.specs.Action as actions
use Rattle.ro_legal.specs.Decides as decisions
use Rattle.ro_legal.specs.Cooperative as together
use Rattle.ro_legal.specs.Choices as choices

abbrev pub in_mode : {X : Type 0} → Mode → (voted cooperative : X) → X
in_mode Voted voted cooperative = voted
in_mode Cooperative voted cooperative = cooperative

abbrev pub InMode : Mode → (voted cooperative : Type 0) → Type 0
InMode Voted voted cooperative = voted
InMode Cooperative voted cooperative = cooperative

-- what a job of this mode has none of: a cooperative run has no faults and no scrubs
abbrev pub Suits : Mode → Job → Type 0
Suits mode job = InMode mode ⊤ ((job.faults ≡ []) × (job.settings.scrub ≡ 0))

abbrev pub opening_core : Mode → Job → Core
opening_core mode job = in_mode mode (voted_core.opening_core job) (together.opening_core job)

-- the core after an entry
abbrev pub after : Mode → Job → Core → Entry → Core
after mode job core entry = in_mode mode (votes.after job core entry) (together.after job core entry)

-- the core that a journal leaves
abbrev pub replay : Mode → Job → List Entry → Core
replay mode job journal = in_mode mode (votes.replay job journal) (together.replay job journal)

-- the same while a failing sink's end is due: it took so many bytes of the last write
abbrev pub replay_with : Mode → Job → List Entry → Option ℕ → Core
replay_with mode job journal None = replay mode job journal
replay_with mode job journal (Some bytes) = record (replay mode job journal) { due = Some (Sink bytes) }

-- the output that a journal wrote
abbrev pub output_of : Mode → Job → List Entry → List ℕ
output_of mode job journal = (replay mode job journal).output

-- the entry is allowed in the core
abbrev pub IsAllowed : Mode → Job → Core → Entry → Type 0
IsAllowed mode job core entry = InMode mode (votes.IsAllowed job core entry) (together.IsAllowed job core entry)

abbrev pub Legal : Mode → Job → List Entry → Type 0
Legal mode job journal = InMode mode (votes.Legal job journal) (together.Legal job journal)

-- the end in the place of an enabled vote on the thread
abbrev pub EndsVote : Mode → Job → Core → (thread : ℕ) → How → Type 0
EndsVote mode job core thread how = InMode mode (votes.EndsVote job core thread how) (together.EndsVote job core thread how)

-- the end in the place of an enabled scrub
abbrev pub EndsScrub : Mode → Core → How → Type 0
EndsScrub mode core how = InMode mode (votes.EndsScrub core how) ⊥

-- the entry decides the vote on a thread: the vote itself, or an end in its place
abbrev pub DecidesVote : Mode → Job → Core → (thread : ℕ) → Entry → Type 0
DecidesVote mode job core thread entry = InMode mode (decisions.DecidesVote job core thread entry) (choices.DecidesVote job core thread entry)

-- the entry frees a thread, or is an end in its place
abbrev pub DecidesFree : Mode → Job → Core → (thread : ℕ) → Entry → Type 0
DecidesFree mode job core thread entry = InMode mode (decisions.DecidesFree job core thread entry) (choices.DecidesFree job core thread entry)

-- the entry is a scrub, or an end in its place
abbrev pub DecidesScrub : Mode → Core → Entry → Type 0
DecidesScrub mode core entry = InMode mode (decisions.DecidesScrub core entry) ⊥

-- the entry is what the core does next, or the end that comes in its place; a lease comes back at any time
abbrev pub IsNext : Mode → Job → Core → Entry → Type 0
IsNext mode job core entry = InMode mode (actions.IsNext job core entry) (choices.IsNext job core entry)

-- each entry of a journal came next
abbrev pub EachIsNext : Mode → Job → List Entry → Type 0
EachIsNext mode job journal = InMode mode (actions.EachIsNext job (voted_core.opening_core job) journal) (choices.EachIsNext job (together.opening_core job) journal)
