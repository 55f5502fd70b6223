-- A core that drivers drive, as contracts see it, by the rules of its mode.
use Rattle.std.specs.Prelude.{◌≡◌, ◌≤◌, ◌<◌, ◌+◌, ℕ, true, IfSome, List, [], ◌++◌, length, Option, Some, None}
use Rattle.ro_io.specs.Outside.{Rose, more}
use Rattle.ro_event.specs.Views.{View}
use Rattle.ro_journal.specs.declared.How.TheVariants.{Sink}
use Rattle.ro_journal.specs.declared.Entry.{Entry}
use Rattle.ro_legal.specs.Core.{Job, Core, is_going}
use Rattle.ro_legal.specs.Legal.{cut_output}
use Rattle.ro_legal.specs.Modes.{InMode}
use Rattle.ro_legal.specs.Rules.{replay, replay_with, output_of}
use Rattle.ro_core.specs.Seen.{CoreOf, before_end, KeepsViews as KeepsVoted}
use Rattle.ro_coop_core.specs.Seen.{RunOf, KeepsViews as KeepsTogether}

-- a core of this job and journal, of which nothing else is said
abbrev pub plain_core : Job → List Entry → CoreOf
plain_core job journal = record { job = job; journal = journal; failed = None; room = 0; views = []; held = None; failures = 0; sure = 0 }

-- a cooperative core, as one whose bytes go nowhere
abbrev pub core_of : RunOf → CoreOf
core_of run = record { job = run.job; journal = run.journal; failed = None; room = run.room; views = run.views; held = None; failures = 0; sure = 0 }

-- the bytes of the view of this number can be written
abbrev pub HasWriter : List View → (writer : Option ℕ) → Type 0
HasWriter views writer = IfSome writer (λ number. number < length views)

-- the same core, with a sink that failed or not, holds and counts this, and surely takes so many bytes
abbrev pub with_sink : CoreOf → (failed : Option ℕ) → (held : Option (List ℕ)) → (failures sure : ℕ) → CoreOf
with_sink core failed held failures sure = record core { failed = failed; held = held; failures = failures; sure = sure }

-- the core that the journal leaves
abbrev pub left_by : CoreOf → Core
left_by core = replay core.job core.journal

-- the same, with the end that a failing sink makes due
abbrev pub state : CoreOf → Core
state core = replay_with core.job core.journal core.failed

-- the bytes that have left
abbrev pub sent_of : Job → List Entry → (failed : Option ℕ) → List ℕ
sent_of job journal None = output_of job journal
sent_of job journal (Some bytes) = cut_output (replay job journal) (Sink bytes)

abbrev pub sent : CoreOf → List ℕ
sent core = sent_of core.job core.journal core.failed

-- the bytes of all writes, whole, also of that at which a sink failed
abbrev pub offered_by : Job → List Entry → List ℕ
offered_by job journal = output_of job (before_end journal)

abbrev pub offered : CoreOf → List ℕ
offered core = offered_by core.job core.journal

-- nothing leaves, and the sink is as it was
pub record Quiet (old new : CoreOf) : Type 0 where
  pub failed : new.failed ≡ None
  pub sent : sent new ≡ sent old
  pub held : new.held ≡ old.held
  pub failures : new.failures ≡ old.failures
  pub sure : new.sure ≡ old.sure

-- These bytes leave; where not all could, the sink failed, at more bytes than it surely takes, and it failed only there.
pub record Sends (old new : CoreOf) (bytes : List ℕ) : Type 0 where
  pub sure : new.failed ≡ None → old.sure ≤ new.sure + length bytes
  pub full : IfSome new.failed (λ taken. old.sure + length (sent old) < length (offered new))
  pub sent : sent new ≡ sent old ++ bytes
  pub held : new.held ≡ more old.held bytes
  pub failures : old.failures ≤ new.failures
  pub failed : IfSome new.failed (λ taken. Rose old.failures new.failures)
  pub calm : new.failed ≡ None → new.failures ≡ old.failures

-- The last entry wrote these bytes behind those before.
pub record LastWrote (core : CoreOf) (before bytes : List ℕ) : Type 0 where
  pub few : length bytes ≤ 4096
  pub output : (left_by core).output ≡ before ++ bytes
  pub wrote : (left_by core).wrote ≡ length bytes
  pub goes_on : 0 < length bytes → is_going (left_by core) ≡ true

-- room for a take, its put, the puts of the leases that are out, and the end
abbrev pub HasRoom : CoreOf → Type 0
HasRoom core = length (state core).leases + 3 ≤ core.room

-- the views of a vote that came to nothing are kept
abbrev pub KeepsViews : Job → List Entry → List View → Type 0
KeepsViews job journal views = InMode job.settings.mode (KeepsVoted job journal views) (KeepsTogether job journal views)
