-- Of what run a journal is, and whether a record is of the files of a command.
use Rattle.std.specs.Prelude.{ℕ, List, Option, Some, None, if◌then◌else◌}
use Rattle.std.specs.Option.{option_or}
use Rattle.std.specs.Str.{bytes_eq}
use Rattle.sha2.specs.Sha256.{sha256}
use Rattle.ro_journal_text.specs.declared.records.Recorded.{Recorded}
use Rattle.ro_report.specs.declared.answers.HeadLine.{HeadLine}
use Rattle.ro_report.specs.declared.answers.HeadLine.TheVariants.{Exe, Input}
use Rattle.ro_settings.specs.declared.Settings.{Settings}

-- of what run a journal is: of these settings, and of files with these contents
abbrev pub recorded_of : Settings → (executable input list : List ℕ) → Recorded
recorded_of settings executable input list =
    record { settings = settings; exe = sha256 executable; input = sha256 input; faults = sha256 list }

-- the line of a head, unless its digest is that of the content
abbrev pub other_digest : HeadLine → (digest content : List ℕ) → Option HeadLine
other_digest line digest content = if bytes_eq digest (sha256 content) then None else Some line

-- The first line of a record's head whose digest is not that of the plan's file; none where a journal has no head.
abbrev pub other_file : Option Recorded → (executable input : List ℕ) → Option HeadLine
other_file None executable input = None
other_file (Some recorded) executable input = option_or (other_digest Exe recorded.exe executable) (other_digest Input recorded.input input)
