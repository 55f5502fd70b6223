-- Why one file of a command is refused.
use Rattle.std.specs.Prelude.{◌≡◌, ⊤, ℕ, ◌<◌, true, List, [], ◌∷◌, length, Option, Some, None, Err}
use Rattle.ro_io.specs.Outside.{Asks, Calls, Files, Rose, unfailed}
use Rattle.ro_elf.specs.Errors.{number_of}
use Rattle.ro_image.specs.Executable.{bad_code}
use Rattle.ro_faults.specs.declared.errors.FaultsError.TheVariants.{Bad}
use Rattle.ro_faults.specs.Texts.{file_faults}
use Rattle.ro_journal_text.specs.declared.errors.JournalError.TheVariants.{Bad as BadLine}
use Rattle.ro_journal_text.specs.Records.{file_any}
use Rattle.ro_journal_text.specs.declared.records.Recorded.{Recorded}
use Rattle.ro_files.specs.Agreeing.{other_file}
use Rattle.ro_report.specs.declared.answers.FileKind.{FileKind}
use Rattle.ro_report.specs.declared.answers.Answer.{Answer}
use Rattle.ro_report.specs.declared.answers.Answer.TheVariants.{StoreFailed, BadExe, BadFaults, BadPlan, Other, TooLong, NoMemory}
use Rattle.ro_files.specs.Files.{most_of, IsFile}

-- It could not be fetched, or has more bytes than it may have; and that was the store's one call.
abbrev pub RefusesFile : Option Files → FileKind → (name : List ℕ) → (before after : ℕ) → (old new : Calls) → Answer → Type 0
RefusesFile files kind name before after old new StoreFailed = Rose before after × Asks old new (record { name = name; failed = true } ∷ [])
RefusesFile files kind name before after old new (TooLong which) =
    (which ≡ kind) × ((content : List ℕ) × IsFile files name content × (most_of kind < length content)) × Asks old new (unfailed (name ∷ []))
RefusesFile files kind name before after old new NoMemory = Asks old new (unfailed (name ∷ []))
RefusesFile files kind name before after old new answer = ⊥

-- the same of a file that need not be named
abbrev pub RefusesContent : Option Files → FileKind → (name : Option (List ℕ)) → (before after : ℕ) → (old new : Calls) → Answer → Type 0
RefusesContent files kind None before after old new answer = ⊥
RefusesContent files kind (Some name) before after old new answer = RefusesFile files kind name before after old new answer

-- it is no executable that is accepted
abbrev pub RefusesExe : (bytes : List ℕ) → Answer → Type 0
RefusesExe bytes (BadExe error) = bad_code bytes ≡ Some (number_of error)
RefusesExe bytes NoMemory = ⊤
RefusesExe bytes answer = ⊥

-- it is no list of faults
abbrev pub RefusesList : (replicas : ℕ) → (bytes : List ℕ) → Answer → Type 0
RefusesList replicas bytes (BadFaults line code) = file_faults replicas bytes ≡ Err (Bad line code)
RefusesList replicas bytes NoMemory = ⊤
RefusesList replicas bytes answer = ⊥

-- it is no text of a journal
abbrev pub RefusesPlan : (bytes : List ℕ) → Answer → Type 0
RefusesPlan bytes (BadPlan line code) = file_any bytes ≡ Err (BadLine line code)
RefusesPlan bytes NoMemory = ⊤
RefusesPlan bytes answer = ⊥

-- the record is of another executable or input
abbrev pub RefusesFiles : Option Recorded → (executable input : List ℕ) → Answer → Type 0
RefusesFiles recorded executable input (Other line) = other_file recorded executable input ≡ Some line
RefusesFiles recorded executable input answer = ⊥
