-- Why nothing is told of a journal, and which files the store was asked for.
use Rattle.std.specs.Prelude.{◌≡◌, ◌⊎◌, ⊤, ℕ, List, [], ◌∷◌, ◌++◌, Option, Some, None}
use Rattle.ro_io.specs.Outside.{Asks, Calls, Files, unfailed}
use Rattle.ro_legal.specs.Core.{Job}
use Rattle.ro_legal.specs.Modes.{Suits}
use Rattle.ro_report.specs.declared.answers.HeadLine.{HeadLine}
use Rattle.ro_report.specs.declared.answers.Answer.{Answer}
use Rattle.ro_journal_text.specs.declared.errors.JournalCode.TheVariants.{Form}
use Rattle.ro_journal_text.specs.declared.records.Recorded.{Recorded}
use Rattle.ro_journal_text.specs.Records.{Any}
use Rattle.ro_report.specs.declared.answers.Answer.TheVariants.{BadPlan, BadWords, NoMemory, Other}
use Rattle.ro_report.specs.declared.answers.FileKind.TheVariants.{Plan}
use Rattle.ro_words.specs.Commands.{AskedAudit, audit_of, to_run}
use Rattle.ro_words.specs.declared.settings.Said.{Said}
use Rattle.ro_files.specs.Causes.{AsksFor, JobCause}
use Rattle.ro_files.specs.Files.{named, recorded_in, IsContent, IsJobOf}
use Rattle.ro_files.specs.Refusals.{RefusesFile, RefusesPlan}
use Rattle.ro_tell.specs.Agreeing.{IsAudited, IsJournalOf, other_files, other_said, run_for}

-- the files of an audit, in the order in which they are asked for: the journal's is the first
abbrev pub audit_names : AskedAudit → List (List ℕ)
audit_names asked = asked.journal ∷ ((asked.executable ∷ named asked.input) ++ named asked.faults)

-- The journal's file is refused, or was fetched and is no text of a journal; the store was asked for it alone.
abbrev pub RefusesJournal : Option Files → (journal : List ℕ) → (before after : ℕ) → (old new : Calls) → Answer → Type 0
RefusesJournal files journal before after old new answer = RefusesFile files Plan journal before after old new answer
    ⊎ ((text : List ℕ) × IsContent files Plan (Some journal) text × RefusesPlan text answer × Asks old new (unfailed (journal ∷ [])))

-- The journal was read, and the store was asked for its file alone.
pub record HasJournal (files : Option Files) (asked : AskedAudit) (old new : Calls) : Type 0 where
  pub journal : Any
  pub is_read : IsJournalOf files asked.journal journal
  pub asks : Asks old new (unfailed (asked.journal ∷ []))

-- it is a record, and this line of its head has another number than is said
abbrev pub RefusesSaid : Said → Option Recorded → Answer → Type 0
RefusesSaid said recorded (Other line) = other_said said recorded ≡ Some line
RefusesSaid said recorded answer = ⊥

-- The journal was read, and nothing else is said than its record does; and then no job was fetched, as by a run.
pub record RefusesRun (files : Option Files) (asked : AskedAudit) (before after : ℕ) (old new : Calls) (answer : Answer) : Type 0 where
  pub mid : Calls
  pub has : HasJournal files asked old mid
  pub same_said : other_said asked.said has.journal.recorded ≡ None
  pub cause : JobCause files (to_run (run_for asked has.journal)) before after answer
  pub asks_run : AsksFor files (to_run (run_for asked has.journal)) mid new answer

-- it is a record, and this line of its head has another digest than the job's file
abbrev pub RefusesFiles : Option Recorded → (of : Recorded) → Answer → Type 0
RefusesFiles recorded of (Other line) = other_files recorded of ≡ Some line
RefusesFiles recorded of answer = ⊥

-- The journal is a record, and this line of its head has another digest than the job's file; or no run of the job's kind has it,
-- which is told as a bad first line.
abbrev pub RefusesJob : Any → (of : Recorded) → Job → Answer → Type 0
RefusesJob journal of job (Other line) = other_files journal.recorded of ≡ Some line
RefusesJob journal of job (BadPlan line code) = (line ≡ 1) × (code ≡ Form) × (Suits journal.mode job → ⊥)
RefusesJob journal of job answer = ⊥

-- No file is refused, and the journal is none of the job's.
pub record RefusesBehind (files : Option Files) (asked : AskedAudit) (old new : Calls) (answer : Answer) : Type 0 where
  pub journal : Any
  pub is_read : IsJournalOf files asked.journal journal
  pub same_said : other_said asked.said journal.recorded ≡ None
  pub job : Job
  pub of : IsJobOf files (run_for asked journal) job
  pub asks : Asks old new (unfailed (audit_names asked))
  pub refused : RefusesJob journal (recorded_in of) job answer

-- All is there, and there is no memory to follow the journal or to tell what is found.
pub record LacksMemory (files : Option Files) (asked : AskedAudit) (old new : Calls) (answer : Answer) : Type 0 where
  pub journal : Any
  pub job : Job
  pub audited : IsAudited files asked journal job
  pub asks : Asks old new (unfailed (audit_names asked))
  pub wanting : answer ≡ NoMemory

-- Why nothing is told of the journal of an audit, where the store counted and was asked so before and after.
pub data AuditCause (files : Option Files) (asked : AskedAudit) (before after : ℕ) (old new : Calls) (answer : Answer) : Type 0 where
  of_journal : RefusesJournal files asked.journal before after old new answer → AuditCause files asked before after old new answer
  of_said : (has : HasJournal files asked old new) → RefusesSaid asked.said has.journal.recorded answer → AuditCause files asked before after old new answer
  of_run : RefusesRun files asked before after old new answer → AuditCause files asked before after old new answer
  of_job : RefusesBehind files asked old new answer → AuditCause files asked before after old new answer
  of_memory : LacksMemory files asked old new answer → AuditCause files asked before after old new answer

-- they spell no audit, or there is no memory to read them
abbrev pub RefusesAudit : (words : List (List ℕ)) → Answer → Type 0
RefusesAudit words BadWords = audit_of words ≡ None
RefusesAudit words NoMemory = ⊤
RefusesAudit words answer = ⊥

-- The words are refused, and the store was asked for nothing; or the audit that they spell is.
abbrev pub WordsCause : Option Files → (words : List (List ℕ)) → (before after : ℕ) → (old new : Calls) → Answer → Type 0
WordsCause files words before after old new answer = (RefusesAudit words answer × (new ≡ old))
    ⊎ ((asked : AskedAudit) × (audit_of words ≡ Some asked) × AuditCause files asked before after old new answer)
