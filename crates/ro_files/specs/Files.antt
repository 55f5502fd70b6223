-- The files that a command names, and the job or the plan that it asks for.
use Rattle.std.specs.Prelude.{◌≡◌, ℕ, ◌*◌, ◌≤◌, List, [], ◌∷◌, ◌++◌, length, Option, Some, None, Ok, IfSome}
use Rattle.ro_io.specs.Outside.{Files}
use Rattle.ro_image.specs.Image.{segments_in}
use Rattle.ro_inject.specs.Draws.{faults_drawn}
use Rattle.ro_make.specs.Bench.{bench_file}
use Rattle.ro_settings.specs.Ranges.{default_settings}
use Rattle.ro_image.specs.Executable.{bad_code, image_of}
use Rattle.ro_faults.specs.declared.Fault.{Fault}
use Rattle.ro_faults.specs.Texts.{file_faults}
use Rattle.ro_report.specs.declared.answers.FileKind.{FileKind}
use Rattle.ro_report.specs.declared.answers.FileKind.TheVariants.{Exe, Input, Faults, Plan}
use Rattle.ro_legal.specs.Core.{Job}
use Rattle.ro_legal.specs.Jobs.{job_of}
use Rattle.ro_words.specs.Commands.{Asked, AskedBench, AskedInject, AskedPlan, AskedRun, to_bench, to_inject, to_plain, to_races, to_run}
use Rattle.ro_journal.specs.declared.Entry.{Entry}
use Rattle.ro_journal_text.specs.Records.{file_any}
use Rattle.ro_journal_text.specs.declared.records.Recorded.{Recorded}
use Rattle.ro_files.specs.Agreeing.{other_file, recorded_of}
use Rattle.ro_settings.specs.declared.Mode.{Mode}
use Rattle.ro_plain.specs.Machine.{Program}

-- how many bytes a file may have
abbrev pub most_of : FileKind → ℕ
most_of Exe = 8 * 1024 * 1024
most_of Input = 1024 * 1024
most_of Faults = 64 * 1024
most_of Plan = 16 * 1024 * 1024

-- the name of a file in a command, if it names one
abbrev pub name_in : Asked → FileKind → Option (List ℕ)
name_in (to_run run) Exe = Some run.executable
name_in (to_run run) Input = run.input
name_in (to_run run) Faults = run.faults
name_in (to_run run) Plan = None
name_in (to_plain plain) Exe = Some plain.executable
name_in (to_plain plain) Input = plain.input
name_in (to_plain plain) Faults = None
name_in (to_plain plain) Plan = Some plain.plan
name_in (to_races races) Exe = Some races.executable
name_in (to_races races) Input = races.input
name_in (to_races races) Faults = None
name_in (to_races races) Plan = Some races.plan
name_in (to_inject inject) Exe = Some inject.executable
name_in (to_inject inject) Input = None
name_in (to_inject inject) Faults = None
name_in (to_inject inject) Plan = None
name_in (to_bench bench) kind = None

-- the name of a file, if one is named
abbrev pub named : Option (List ℕ) → List (List ℕ)
named None = []
named (Some name) = name ∷ []

-- The names of a command's files before the one of this kind: the executable is asked for first, then the input, then the faults or
-- the plan.
abbrev pub names_before : Asked → FileKind → List (List ℕ)
names_before asked Exe = []
names_before asked Input = named (name_in asked Exe)
names_before asked Faults = named (name_in asked Exe) ++ named (name_in asked Input)
names_before asked Plan = named (name_in asked Exe) ++ named (name_in asked Input)

-- of which kind the last file is that a command may name
abbrev pub last_in : Asked → FileKind
last_in (to_run run) = Faults
last_in (to_plain plain) = Plan
last_in (to_races races) = Plan
last_in (to_inject inject) = Exe
last_in (to_bench bench) = Exe

-- the file of that name has this content, where the store tells
abbrev pub IsFile : Option Files → (name content : List ℕ) → Type 0
IsFile files name content = IfSome files (λ all. all name ≡ Some content)

-- the content of a file that may be read, or nothing where none is named
abbrev pub IsContent : Option Files → FileKind → (name : Option (List ℕ)) → List ℕ → Type 0
IsContent files kind None content = content ≡ []
IsContent files kind (Some name) content = IsFile files name content × (length content ≤ most_of kind)

-- The job that a run asks for: its files may be read, its executable is accepted, and its faults are those of its list.
pub record IsJobOf (files : Option Files) (asked : AskedRun) (job : Job) : Type 0 where
  pub executable : List ℕ
  pub executable_is : IsContent files Exe (Some asked.executable) executable
  pub accepted : bad_code executable ≡ None
  pub input : List ℕ
  pub input_is : IsContent files Input asked.input input
  pub list : List ℕ
  pub list_is : IsContent files Faults asked.faults list
  pub faults : List Fault
  pub faults_are : file_faults asked.settings.replicas list ≡ Ok faults
  pub job_is : job ≡ job_of (image_of executable) input faults asked.settings

-- of what run the journal of such a job is
abbrev pub recorded_in : {files : Option Files} {asked : AskedRun} {job : Job} → IsJobOf files asked job → Recorded
recorded_in {asked = asked} of = recorded_of asked.settings of.executable of.input of.list

-- What is to be run or checked by a plan: its files may be read, its executable is accepted, its journal and the mode of the
-- journal's run are those of its text, and where that is a record it is of the executable and the input.
pub record IsPlanOf (files : Option Files) (asked : AskedPlan) (program : Program) (mode : Mode) (journal : List Entry) : Type 0 where
  pub executable : List ℕ
  pub executable_is : IsContent files Exe (Some asked.executable) executable
  pub accepted : bad_code executable ≡ None
  pub input : List ℕ
  pub input_is : IsContent files Input asked.input input
  pub text : List ℕ
  pub text_is : IsContent files Plan (Some asked.plan) text
  pub recorded : Option Recorded
  pub journal_is : file_any text ≡ Ok (record { recorded = recorded; mode = mode; entries = journal })
  pub same_files : other_file recorded executable input ≡ None
  pub program_is : program ≡ record { image = image_of executable; input = input }

-- The faults that a draw is asked for: its executable may be read and is accepted, and they are drawn in its segments.
pub record AreDrawn (files : Option Files) (asked : AskedInject) (faults : List Fault) : Type 0 where
  pub executable : List ℕ
  pub executable_is : IsContent files Exe (Some asked.executable) executable
  pub accepted : bad_code executable ≡ None
  pub faults_are : faults ≡ faults_drawn (segments_in (image_of executable).ranges) asked.replica asked.seed asked.count

-- the job of a made executable: no input, no faults, and the usual settings
abbrev pub bench_job : AskedBench → Job
bench_job asked = job_of (image_of (bench_file asked.seed asked.size)) [] [] default_settings
