-- What an audit says of a run, and what a record says of it.
use Rattle.std.specs.Prelude.{◌≡◌, ℕ, ◌==◌, List, Option, Some, None, Ok, if◌then◌else◌}
use Rattle.std.specs.Option.{option_or}
use Rattle.std.specs.Str.{bytes_eq}
use Rattle.ro_files.specs.Files.{IsContent, IsJobOf, recorded_in}
use Rattle.ro_io.specs.Outside.{Files}
use Rattle.ro_journal_text.specs.Records.{Any, file_any}
use Rattle.ro_journal_text.specs.declared.records.Recorded.{Recorded}
use Rattle.ro_legal.specs.Core.{Job}
use Rattle.ro_legal.specs.Modes.{Suits}
use Rattle.ro_report.specs.declared.answers.FileKind.TheVariants.{Plan}
use Rattle.ro_report.specs.declared.answers.HeadLine.{HeadLine}
use Rattle.ro_report.specs.declared.answers.HeadLine.TheVariants.{Replicas, Drivers, Watchdog, Quantum, Limit, Scrub, Exe, Input, Faults}
use Rattle.ro_settings.specs.declared.Mode.TheVariants.{Voted}
use Rattle.ro_settings.specs.declared.Settings.{Settings}
use Rattle.ro_words.specs.Commands.{AskedAudit, AskedRun, audited_run, settings_said}
use Rattle.ro_words.specs.declared.settings.Said.{Said}

-- The settings of the run that a journal is judged by, but for its mode: those of a record, or else what is said and the usual ones.
abbrev pub settings_for : Said → Option Recorded → Settings
settings_for said None = settings_said Voted said
settings_for said (Some recorded) = record recorded.settings { mode = Voted }

-- the journal of the file of this name
abbrev pub IsJournalOf : Option Files → (name : List ℕ) → Any → Type 0
IsJournalOf files name journal = (text : List ℕ) × IsContent files Plan (Some name) text × (file_any text ≡ Ok journal)

-- the run that an audit takes the journal for one of, but for its mode
abbrev pub run_for : AskedAudit → Any → AskedRun
run_for asked journal = audited_run asked (settings_for asked.said journal.recorded)

-- the line of a head, where another number is said than its own
abbrev pub other_number : HeadLine → (said : Option ℕ) → (number : ℕ) → Option HeadLine
other_number line None number = None
other_number line (Some said) number = if said == number then None else Some line

-- the first line of a head that has another number than is said
abbrev pub other_setting : Said → Settings → Option HeadLine
other_setting said settings =
    option_or (other_number Replicas said.replicas settings.replicas)
    (option_or (other_number Drivers said.drivers settings.drivers)
    (option_or (other_number Watchdog said.watchdog settings.watchdog)
    (option_or (other_number Quantum said.quantum settings.quantum)
    (option_or (other_number Limit said.limit settings.limit)
    (other_number Scrub said.scrub settings.scrub)))))

-- the same of a journal; none where it has no head
abbrev pub other_said : Said → Option Recorded → Option HeadLine
other_said said None = None
other_said said (Some recorded) = other_setting said recorded.settings

-- the line of a head, unless the digests are the same
abbrev pub unless_same : HeadLine → (one other : List ℕ) → Option HeadLine
unless_same line one other = if bytes_eq one other then None else Some line

-- the first line of a journal's head that has another digest than the files of a job; none where it has no head
abbrev pub other_files : Option Recorded → (job : Recorded) → Option HeadLine
other_files None job = None
other_files (Some recorded) job =
    option_or (unless_same Exe recorded.exe job.exe) (option_or (unless_same Input recorded.input job.input) (unless_same Faults recorded.faults job.faults))

-- What is to be judged: the journal of an audit, and the job that the run's files make, which may have such a journal. Where the journal is
-- a record, nothing else is said than its head says, and it is of these files; the settings are its own.
pub record IsAudited (files : Option Files) (asked : AskedAudit) (journal : Any) (job : Job) : Type 0 where
  pub is_read : IsJournalOf files asked.journal journal
  pub same_said : other_said asked.said journal.recorded ≡ None
  pub of : IsJobOf files (run_for asked journal) job
  pub same_files : other_files journal.recorded (recorded_in of) ≡ None
  pub suits : Suits journal.mode job
