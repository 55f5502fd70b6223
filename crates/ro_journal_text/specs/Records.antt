-- The head of a record: of what run a journal is.
use Rattle.std.specs.Prelude.{◌≡◌, ℕ, ◌==◌, Bool, false, List, [], ◌∷◌, ◌++◌, Option, Some, None, Result, Ok, Err, is_ok, if◌then◌else◌, codes, decimal, length}
use Rattle.std.specs.Str.{bytes_eq}
use Rattle.hex.specs.Hex.{IsBytes, encode_lower, decode_sized}
use Rattle.hex.specs.declared.error.FromHexError.{FromHexError}
use Rattle.ro_settings.specs.declared.Mode.{Mode}
use Rattle.ro_settings.specs.declared.Mode.TheVariants.{Voted, Cooperative}
use Rattle.ro_settings.specs.Ranges.{Range, InRange, replicas_range, drivers_range, watchdog_range, quantum_range, limit_range, scrub_range}
use Rattle.ro_text.specs.Numbers.{is_number, value_of, within}
use Rattle.ro_text.specs.Lines.{line_text, words_of, parts_of}
use Rattle.ro_journal_text.specs.declared.records.Recorded.{Recorded}
use Rattle.ro_journal_text.specs.declared.errors.JournalCode.{JournalCode}
use Rattle.ro_journal_text.specs.declared.errors.JournalCode.TheVariants as bad
use Rattle.ro_journal_text.specs.declared.errors.JournalError.{JournalError}
use Rattle.ro_journal_text.specs.declared.errors.JournalError.TheVariants.{Bad}
use Rattle.ro_journal.specs.declared.Entry.{Entry}
use Rattle.ro_journal_text.specs.declared.files.AnyJournal.{AnyJournal}
use Rattle.ro_journal_text.specs.declared.files.RecordedJournal.{RecordedJournal}
use Rattle.ro_journal_text.specs.declared.versions.Version.TheVariants.{Second}
use Rattle.ro_journal_text.specs.Texts.{entries_text}
use Rattle.ro_journal_text.specs.Reading.{Journal, file_journal, in_line, lines_entries}

-- Its text.

-- the first line without its line feed
abbrev pub record_header : Mode → List ℕ
record_header Voted = codes "romain 3 vote"
record_header Cooperative = codes "romain 3 coop"

abbrev pub number_words : Range → ℕ → List (List ℕ)
number_words range number = range.name ∷ decimal number ∷ []

abbrev pub digest_words : (name digest : List ℕ) → List (List ℕ)
digest_words name digest = name ∷ encode_lower digest ∷ []

-- the words of the lines behind the first
abbrev pub head_lines : Recorded → List (List (List ℕ))
head_lines recorded =
    number_words replicas_range recorded.settings.replicas
    ∷ number_words drivers_range recorded.settings.drivers
    ∷ number_words watchdog_range recorded.settings.watchdog
    ∷ number_words quantum_range recorded.settings.quantum
    ∷ number_words limit_range recorded.settings.limit
    ∷ number_words scrub_range recorded.settings.scrub
    ∷ digest_words (codes "exe") recorded.exe
    ∷ digest_words (codes "input") recorded.input
    ∷ digest_words (codes "faults") recorded.faults
    ∷ []

abbrev pub lines_text : List (List (List ℕ)) → List ℕ
lines_text [] = []
lines_text (words ∷ lines) = line_text words ++ lines_text lines

abbrev pub head_text : Recorded → List ℕ
head_text recorded = (record_header recorded.settings.mode ++ codes "\n") ++ lines_text (head_lines recorded)

-- a digest is 32 bytes
pub record IsDigest (digest : List ℕ) : Type 0 where
  pub bytes : IsBytes digest
  pub size : length digest ≡ 32

-- a run that may be, and digests
pub record IsRecord (recorded : Recorded) : Type 0 where
  pub settings : InRange recorded.settings
  pub exe : IsDigest recorded.exe
  pub input : IsDigest recorded.input
  pub faults : IsDigest recorded.faults

-- Its reading.

-- a head that is read, and the lines behind it
pub record Headed : Type 0 where
  pub recorded : Recorded
  pub rest : List (List ℕ)

-- the mode that the first line says
abbrev pub mode_in : List ℕ → Result Mode JournalCode
mode_in line =
    if bytes_eq line (record_header Voted) then Ok Voted
    else (if bytes_eq line (record_header Cooperative) then Ok Cooperative else Err bad.Form)

-- what stands behind the name in a line of two words
abbrev pub value_behind : (name : List ℕ) → List (List ℕ) → Option (List ℕ)
value_behind name (word ∷ value ∷ []) = if bytes_eq word name then Some value else None
value_behind name _ = None

abbrev pub number_said : Range → Option (List ℕ) → Result ℕ JournalCode
number_said range None = Err bad.Form
number_said range (Some word) =
    if is_number word then (if within range.least range.most (value_of word) then Ok (value_of word) else Err bad.Range) else Err bad.Form

-- the number in its range that a line says
abbrev pub number_in : Range → List ℕ → Result ℕ JournalCode
number_in range line = number_said range (value_behind range.name (words_of line))

-- so many as may run, of those in the range
abbrev pub that_run : Result ℕ JournalCode → Result ℕ JournalCode
that_run (Ok replicas) = if replicas == 4 then Err bad.Range else Ok replicas
that_run (Err code) = Err code

abbrev pub replicas_in : List ℕ → Result ℕ JournalCode
replicas_in line = that_run (number_in replicas_range line)

-- a digest has one spelling
abbrev pub spelled_once : (word : List ℕ) → Result (List ℕ) FromHexError → Result (List ℕ) JournalCode
spelled_once word (Ok digest) = if bytes_eq word (encode_lower digest) then Ok digest else Err bad.Form
spelled_once word (Err error) = Err bad.Form

abbrev pub digest_said : Option (List ℕ) → Result (List ℕ) JournalCode
digest_said None = Err bad.Form
digest_said (Some word) = spelled_once word (decode_sized word 32)

-- the digest that a line says
abbrev pub digest_in : (name : List ℕ) → List ℕ → Result (List ℕ) JournalCode
digest_in name line = digest_said (value_behind name (words_of line))

-- what follows of what a line says
abbrev pub and_then : {A : Type 0} → Result A JournalError → (A → Result Headed JournalError) → Result Headed JournalError
and_then (Ok said) more = more said
and_then (Err error) more = Err error

-- what the line of this number says, and then the lines behind it; each line has its line feed
abbrev pub at_line : {A : Type 0} → (line : ℕ) → (List ℕ → Result A JournalCode) → List (List ℕ) → (A → List (List ℕ) → Result Headed JournalError) → Result Headed JournalError
at_line line says (part ∷ next ∷ parts) more = and_then (in_line line (says part)) (λ said. more said (next ∷ parts))
at_line line says _ more = Err (Bad line bad.Form)

-- the head that lines begin with, or the first bad line
abbrev pub head_of : List (List ℕ) → Result Headed JournalError
head_of lines =
    at_line 1 mode_in lines (λ mode lines.
    at_line 2 replicas_in lines (λ replicas lines.
    at_line 3 (number_in drivers_range) lines (λ drivers lines.
    at_line 4 (number_in watchdog_range) lines (λ watchdog lines.
    at_line 5 (number_in quantum_range) lines (λ quantum lines.
    at_line 6 (number_in limit_range) lines (λ limit lines.
    at_line 7 (number_in scrub_range) lines (λ scrub lines.
    at_line 8 (digest_in (codes "exe")) lines (λ exe lines.
    at_line 9 (digest_in (codes "input")) lines (λ input lines.
    at_line 10 (digest_in (codes "faults")) lines (λ faults lines.
    Ok (record {
      recorded = record {
        settings = record { mode = mode; replicas = replicas; drivers = drivers; watchdog = watchdog; quantum = quantum; limit = limit; scrub = scrub };
        exe = exe;
        input = input;
        faults = faults;
      };
      rest = lines;
    })))))))))))

-- a journal that says of what run it is
pub record Record : Type 0 where
  pub recorded : Recorded
  pub entries : List Entry

-- one of the code
abbrev pub record_in : RecordedJournal → Record
record_in journal = record { recorded = journal.recorded; entries = journal.entries.items }

-- the entries of a run whose head was read
abbrev pub with_head : Recorded → Result (List Entry) JournalError → Result Record JournalError
with_head recorded (Ok entries) = Ok (record { recorded = recorded; entries = entries })
with_head recorded (Err error) = Err error

-- the entries behind a head, in lines of the second version from the eleventh on
abbrev pub behind_head : Result Headed JournalError → Result Record JournalError
behind_head (Ok headed) = with_head headed.recorded (lines_entries Second 11 headed.rest)
behind_head (Err error) = Err error

-- the record of a text, or its first bad line
abbrev pub file_record : List ℕ → Result Record JournalError
file_record bytes = behind_head (head_of (parts_of bytes))

-- the text of a record
abbrev pub record_text : Recorded → List Entry → List ℕ
record_text recorded entries = head_text recorded ++ entries_text entries

-- A text in any version.

-- the first of the lines is that of a record
abbrev pub says_record : List (List ℕ) → Bool
says_record (first ∷ next ∷ parts) = is_ok (mode_in first)
says_record _ = false

-- a journal, and of what run it is, where its text says so
pub record Any : Type 0 where
  pub recorded : Option Recorded
  pub mode : Mode
  pub entries : List Entry

-- one of the code
abbrev pub any_in : AnyJournal → Any
any_in journal = record { recorded = journal.recorded; mode = journal.mode; entries = journal.entries.items }

abbrev pub of_record : Result Record JournalError → Result Any JournalError
of_record (Ok told) = Ok (record { recorded = Some told.recorded; mode = told.recorded.settings.mode; entries = told.entries })
of_record (Err error) = Err error

abbrev pub of_journal : Result Journal JournalError → Result Any JournalError
of_journal (Ok journal) = Ok (record { recorded = None; mode = journal.mode; entries = journal.entries })
of_journal (Err error) = Err error

-- the journal of a text, or its first bad line: it is read as a record where its first line is that of one
abbrev pub file_any : List ℕ → Result Any JournalError
file_any bytes = if says_record (parts_of bytes) then of_record (file_record bytes) else of_journal (file_journal bytes)
