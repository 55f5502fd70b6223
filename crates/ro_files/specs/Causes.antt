-- Why a command is refused, and which files its store was asked for.
use Rattle.std.specs.Prelude.{◌≡◌, ◌⊎◌, ⊤, ℕ, ◌<◌, ◌≤◌, true, List, [], ◌∷◌, ◌++◌, length, Option, Some, None, Ok, Err}
use Rattle.ro_io.specs.Outside.{Asks, Call, Calls, Files, Rose, unfailed}
use Rattle.ro_make.specs.Bench.{bench_file}
use Rattle.ro_elf.specs.Errors.{number_of}
use Rattle.ro_elf.specs.declared.errors.ExeError.{ExeError}
use Rattle.ro_image.specs.Executable.{bad_code}
use Rattle.ro_faults.specs.declared.errors.FaultsCode.{FaultsCode}
use Rattle.ro_faults.specs.declared.errors.FaultsError.TheVariants.{Bad}
use Rattle.ro_faults.specs.Texts.{file_faults}
use Rattle.ro_report.specs.declared.answers.FileKind.{FileKind}
use Rattle.ro_report.specs.declared.answers.FileKind.TheVariants.{Exe, Input, Faults, Plan}
use Rattle.ro_report.specs.declared.answers.HeadLine.{HeadLine}
use Rattle.ro_report.specs.declared.answers.Answer.{Answer}
use Rattle.ro_report.specs.declared.answers.Answer.TheVariants.{StoreFailed, BadExe, BadFaults, BadPlan, Other, BadWords, TooLong, NoMemory}
use Rattle.ro_words.specs.Commands.{Asked, command_of, to_bench, to_inject, to_plain, to_races, to_run}
use Rattle.ro_journal_text.specs.declared.errors.JournalCode.{JournalCode}
use Rattle.ro_journal_text.specs.declared.errors.JournalError.TheVariants.{Bad as BadLine}
use Rattle.ro_journal_text.specs.Records.{Any, file_any}
use Rattle.ro_files.specs.Agreeing.{other_file}
use Rattle.ro_files.specs.Files.{most_of, last_in, name_in, named, names_before, IsFile, IsContent}

-- ---- refusals

-- the command is refused before anything runs
abbrev pub IsRefusal : Answer → Type 0
IsRefusal StoreFailed = ⊤
IsRefusal (BadExe code) = ⊤
IsRefusal (BadFaults line code) = ⊤
IsRefusal (BadPlan line code) = ⊤
IsRefusal (Other line) = ⊤
IsRefusal BadWords = ⊤
IsRefusal (TooLong kind) = ⊤
IsRefusal answer = ⊥

-- the command names a file of this kind, which has this content, where the store tells
pub record IsNamedFile (files : Option Files) (asked : Asked) (kind : FileKind) (content : List ℕ) : Type 0 where
  pub name : List ℕ
  pub name_is : name_in asked kind ≡ Some name
  pub content_is : IsFile files name content

-- the executable may be read, and is accepted
pub record IsAccepted (files : Option Files) (asked : Asked) : Type 0 where
  pub executable : List ℕ
  pub executable_is : IsContent files Exe (name_in asked Exe) executable
  pub accepted : bad_code executable ≡ None

-- the input, if there is one, may be read
pub record HasInput (files : Option Files) (asked : Asked) : Type 0 where
  pub input : List ℕ
  pub input_is : IsContent files Input (name_in asked Input) input

-- The executable is read first, then the input, then the faults or the plan: those before a file of this kind are not refused.
abbrev pub ComesAt : Option Files → Asked → FileKind → Type 0
ComesAt files asked Exe = ⊤
ComesAt files asked Input = IsAccepted files asked
ComesAt files asked Faults = IsAccepted files asked × HasInput files asked
ComesAt files asked Plan = IsAccepted files asked × HasInput files asked

-- it has more bytes than it may have
pub record IsTooLong (files : Option Files) (asked : Asked) (kind : FileKind) : Type 0 where
  pub earlier : ComesAt files asked kind
  pub content : List ℕ
  pub file : IsNamedFile files asked kind content
  pub long : most_of kind < length content

-- the executable of a command: a file that may be read, or one that is made
abbrev pub IsExe : Option Files → Asked → (content : List ℕ) → Type 0
IsExe files (to_bench bench) content = content ≡ bench_file bench.seed bench.size
IsExe files asked content = IsContent files Exe (name_in asked Exe) content

-- this check is the first that it fails
pub record IsBadExe (files : Option Files) (asked : Asked) (error : ExeError) : Type 0 where
  pub content : List ℕ
  pub file : IsExe files asked content
  pub bad : bad_code content ≡ Some (number_of error)

-- for how many replicas a command's list of faults is
abbrev pub replicas_in : Asked → ℕ
replicas_in (to_run run) = run.settings.replicas
replicas_in (to_plain plain) = 0
replicas_in (to_races races) = 0
replicas_in (to_inject inject) = 0
replicas_in (to_bench bench) = 0

-- it may be read, and its first bad line is this one
pub record IsBadList (files : Option Files) (asked : Asked) (line : ℕ) (code : FaultsCode) : Type 0 where
  pub earlier : ComesAt files asked Faults
  pub content : List ℕ
  pub file : IsNamedFile files asked Faults content
  pub short : length content ≤ most_of Faults
  pub bad : file_faults (replicas_in asked) content ≡ Err (Bad line code)

-- the same of the text of a plan's journal
pub record IsBadPlan (files : Option Files) (asked : Asked) (line : ℕ) (code : JournalCode) : Type 0 where
  pub earlier : ComesAt files asked Plan
  pub content : List ℕ
  pub file : IsNamedFile files asked Plan content
  pub short : length content ≤ most_of Plan
  pub bad : file_any content ≡ Err (BadLine line code)

-- The journal of a plan may be read, and says that it is of another run: this line of its head says another executable or input.
pub record IsOther (files : Option Files) (asked : Asked) (line : HeadLine) : Type 0 where
  pub accepted : IsAccepted files asked
  pub input : HasInput files asked
  pub content : List ℕ
  pub file : IsNamedFile files asked Plan content
  pub short : length content ≤ most_of Plan
  pub journal : Any
  pub journal_is : file_any content ≡ Ok journal
  pub other : other_file journal.recorded accepted.executable input.input ≡ Some line

-- Why nothing is done of a command, where the store's count of failures was the one and is the other. There is no memory only by chance.
abbrev pub JobCause : Option Files → Asked → (before after : ℕ) → Answer → Type 0
JobCause files asked before after StoreFailed = Rose before after
JobCause files asked before after (BadExe error) = IsBadExe files asked error
JobCause files asked before after (BadFaults line code) = IsBadList files asked line code
JobCause files asked before after (BadPlan line code) = IsBadPlan files asked line code
JobCause files asked before after (Other line) = IsOther files asked line
JobCause files asked before after (TooLong kind) = IsTooLong files asked kind
JobCause files asked before after NoMemory = ⊤
JobCause files asked before after answer = ⊥

-- why words are refused
abbrev pub RefusalCause : Option Files → (words : List (List ℕ)) → (before after : ℕ) → Answer → Type 0
RefusalCause files words before after BadWords = command_of words ≡ None
RefusalCause files words before after NoMemory = ⊤
RefusalCause files words before after answer = (asked : Asked) × (command_of words ≡ Some asked) × JobCause files asked before after answer

-- ---- what is asked for

-- The store was asked for the command's files before the one of this kind, which were not refused, and then it had these calls.
pub record AsksAt (files : Option Files) (asked : Asked) (old new : Calls) (kind : FileKind) (calls : List Call) : Type 0 where
  pub earlier : ComesAt files asked kind
  pub asks : Asks old new (unfailed (names_before asked kind) ++ calls)

-- It was asked for the command's files up to the one of this kind, if there is one.
abbrev pub AsksTo : Option Files → Asked → (old new : Calls) → FileKind → Type 0
AsksTo files asked old new kind = AsksAt files asked old new kind (unfailed (named (name_in asked kind)))

-- The file of this kind is one that the words name, and the call for it failed.
pub record FailsAt (files : Option Files) (asked : Asked) (old new : Calls) (kind : FileKind) : Type 0 where
  pub name : List ℕ
  pub name_is : name_in asked kind ≡ Some name
  pub asks : AsksAt files asked old new kind (record { name = name; failed = true } ∷ [])

-- Which files the store was asked for, by the answer: one that failed or was refused was the last; where memory was wanting any may be,
-- or none was asked for; else it was the command's last.
abbrev pub AsksFor : Option Files → Asked → (old new : Calls) → Answer → Type 0
AsksFor files asked old new StoreFailed = (kind : FileKind) × FailsAt files asked old new kind
AsksFor files asked old new (BadExe code) = AsksTo files asked old new Exe
AsksFor files asked old new (TooLong kind) = AsksTo files asked old new kind
AsksFor files asked old new (BadFaults line code) = AsksTo files asked old new Faults
AsksFor files asked old new (BadPlan line code) = AsksTo files asked old new Plan
AsksFor files asked old new (Other line) = AsksTo files asked old new Plan
AsksFor files asked old new NoMemory = Asks old new [] ⊎ ((kind : FileKind) × AsksTo files asked old new kind)
AsksFor files asked old new answer = AsksTo files asked old new (last_in asked)
