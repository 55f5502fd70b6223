-- The command that words spell: its name, then its arguments in their order, with its options anywhere among them, each at most
-- once.
use Rattle.std.specs.Prelude.{◌≡◌, ◌≤◌, ℕ, ◌-◌, ◌^◌, nat_le, Bool, true, false, List, [], ◌∷◌, Option, Some, None, codes}
use Rattle.std.specs.Prelude.{◌==◌, ◌&&◌, ◌||◌, if◌then◌else◌, is_none, option_and_then, option_map, find, map, IfSome}
use denote.Bor.{Bor}
use Rattle.std.specs.Str.{bytes_eq}
use Rattle.std.specs.Str.Parse.{digits_value, without_leading_plus}
use Rattle.clap.specs.ValueTests.{is_unsigned_in}
use Rattle.ro_settings.specs.declared.Mode.{Mode}
use Rattle.ro_settings.specs.declared.Mode.TheVariants.{Voted, Cooperative}
use Rattle.ro_settings.specs.declared.Settings.{Settings}
use Rattle.ro_settings.specs.Ranges.{InRange, IsFrom, IsIn, IsReplicas, Range, default_settings, drivers_range, limit_range, quantum_range, ranges, replicas_range, scrub_range, watchdog_range}
use Rattle.ro_words.specs.Uses.{Text, Use, Syntax, flags_in, is_whole, text_of, uses_from}
use Rattle.ro_words.specs.declared.commands.AuditCommand.{AuditCommand}
use Rattle.ro_words.specs.declared.commands.Command.{Command}
use Rattle.ro_words.specs.declared.commands.Command.TheVariants.{Run, Plain, Races, Inject, Bench}
use Rattle.ro_words.specs.declared.commands.BenchCommand.{BenchCommand}
use Rattle.ro_words.specs.declared.commands.InjectCommand.{InjectCommand}
use Rattle.ro_words.specs.declared.commands.Kept.{Kept}
use Rattle.ro_words.specs.declared.commands.Kept.TheVariants.{Nothing, Journal, Record}
use Rattle.ro_words.specs.declared.commands.PlanCommand.{PlanCommand}
use Rattle.ro_words.specs.declared.commands.RunCommand.{RunCommand}
use Rattle.ro_words.specs.declared.settings.Said.{Said}
use Rattle.ro_words.specs.declared.commands.WordsError.{WordsError}
use Rattle.ro_words.specs.declared.commands.WordsError.TheVariants.{Bad, NoMemory}
use Rattle.clap.specs.declared.error.kind.ErrorKind.{ErrorKind}
use Rattle.clap.specs.declared.error.kind.ErrorKind.TheVariants as kind

-- ---- numbers

-- the number that the text writes, where it is one that `u64` reads and lies between the two
abbrev pub number_in : (least most : ℕ) → Text → Option ℕ
number_in least most text =
    if is_unsigned_in least most text then Some (digits_value 10 (without_leading_plus text)) else None

-- the same, or the usual number where no text is given
abbrev pub number_or : (usual least most : ℕ) → Option Text → Option ℕ
number_or usual least most None = Some usual
number_or usual least most (Some text) = number_in least most text

-- the same of a text that must be given
abbrev pub given_number : (least most : ℕ) → Option Text → Option ℕ
given_number least most text = option_and_then (number_in least most) text

-- the same of a text that need not be given
abbrev pub maybe_number : (least most : ℕ) → Option Text → Option (Option ℕ)
maybe_number least most None = Some None
maybe_number least most (Some text) = option_map (λ number. Some number) (number_in least most text)

-- so many replicas, where so many may run
abbrev pub are_replicas : ℕ → Bool
are_replicas n = (n == 2) || (n == 3) || (n == 5)

abbrev pub replicas_only : Option ℕ → Option ℕ
replicas_only None = None
replicas_only (Some n) = if are_replicas n then Some n else None

-- ---- modes

-- the mode that the text names
abbrev pub mode_of_text : Text → Option Mode
mode_of_text text =
    if bytes_eq text (codes "vote") then Some Voted else (if bytes_eq text (codes "coop") then Some Cooperative else None)

-- the same, or votes where no text is given
abbrev pub mode_or_votes : Option Text → Option Mode
mode_or_votes None = Some Voted
mode_or_votes (Some text) = mode_of_text text

-- the mode of a run, from the texts that are given under the options' names
abbrev pub mode_for : (Text → Option Text) → Option Mode
mode_for given = mode_or_votes (given (codes "mode"))

-- ---- settings

abbrev pub settings_from : Option Mode → (replicas drivers watchdog quantum limit scrub : Option ℕ) → Option Settings
settings_from (Some mode) (Some replicas) (Some drivers) (Some watchdog) (Some quantum) (Some limit) (Some scrub) = Some (record {
  mode = mode;
  replicas = replicas;
  drivers = drivers;
  watchdog = watchdog;
  quantum = quantum;
  limit = limit;
  scrub = scrub;
})
settings_from _ _ _ _ _ _ _ = None

-- the number of an option, from the texts that are given under the options' names
abbrev pub number_for : Range → (Text → Option Text) → Option ℕ
number_for range given = number_or range.usual range.least range.most (given range.name)

-- the settings of these texts, in the mode
abbrev pub settings_of : Option Mode → (Text → Option Text) → Option Settings
settings_of mode given = settings_from mode
    (replicas_only (number_for replicas_range given))
    (number_for drivers_range given)
    (number_for watchdog_range given)
    (number_for quantum_range given)
    (number_for limit_range given)
    (number_for scrub_range given)

-- ---- commands

-- a run that is asked for, and what is to be kept of its journal
pub record AskedRun : Type 0 where
  pub executable : Text
  pub input : Option Text
  pub faults : Option Text
  pub settings : Settings
  pub kept : Kept

-- the plan of a journal that is to be followed on the unreplicated machine
pub record AskedPlan : Type 0 where
  pub executable : Text
  pub plan : Text
  pub input : Option Text

-- faults that are to be drawn: so many by a seed, for an executable, all in one replica if one is named
pub record AskedInject : Type 0 where
  pub seed : ℕ
  pub count : ℕ
  pub executable : Text
  pub replica : Option ℕ

-- the run of a made executable, of a seed and a size
pub record AskedBench : Type 0 where
  pub seed : ℕ
  pub size : ℕ

-- the audit of a journal, of a run of these files in which these numbers are said to have been asked for
pub record AskedAudit : Type 0 where
  pub executable : Text
  pub input : Option Text
  pub faults : Option Text
  pub said : Said
  pub journal : Text
  pub json : Bool

-- how many steps a cooperative run may have at most: fewer than the ranks that are counted of a mutex, each of which takes one
abbrev pub most_together : ℕ
most_together = 4000000000

-- a cooperative run has no faults and no scrubs, and no larger limit
abbrev pub SuitsMode : AskedRun → Type 0
SuitsMode run = run.settings.mode ≡ Cooperative → (run.faults ≡ None) × (run.settings.scrub ≡ 0) × (run.settings.limit ≤ most_together)

-- what is asked for
pub data Asked : Type 0 where
  to_run : AskedRun → Asked
  to_plain : AskedPlan → Asked
  to_races : AskedPlan → Asked
  to_inject : AskedInject → Asked
  to_bench : AskedBench → Asked

-- the run of an executable for which nothing else is asked
abbrev pub usual_run : Text → AskedRun
usual_run executable = record {
  executable = executable;
  input = None;
  faults = None;
  settings = default_settings;
  kept = Nothing;
}

-- no number is said
abbrev pub nothing_said : Said
nothing_said = record { replicas = None; drivers = None; watchdog = None; quantum = None; limit = None; scrub = None }

-- the audit of a journal for which nothing else is said
abbrev pub usual_audit : (executable journal : Text) → AskedAudit
usual_audit executable journal =
    record { executable = executable; input = None; faults = None; said = nothing_said; journal = journal; json = false }

-- the number that is said, or the usual one
abbrev pub number_said : (usual : ℕ) → Option ℕ → ℕ
number_said usual None = usual
number_said usual (Some number) = number

-- the settings in the mode where these numbers are said; the others are the usual ones
abbrev pub settings_said : Mode → Said → Settings
settings_said mode said = record {
  mode = mode;
  replicas = number_said replicas_range.usual said.replicas;
  drivers = number_said drivers_range.usual said.drivers;
  watchdog = number_said watchdog_range.usual said.watchdog;
  quantum = number_said quantum_range.usual said.quantum;
  limit = number_said limit_range.usual said.limit;
  scrub = number_said scrub_range.usual said.scrub;
}

-- the run of the audit's files with these settings
abbrev pub audited_run : AskedAudit → Settings → AskedRun
audited_run audit settings =
    record { executable = audit.executable; input = audit.input; faults = audit.faults; settings = settings; kept = Nothing }

-- ---- what each asks for, from the texts that are given under the names, and from which flags are given

-- what is to be kept of a run's journal: the journal or the record, not both
abbrev pub kept_of : (journal recorded : Bool) → Option Kept
kept_of false false = Some Nothing
kept_of true false = Some Journal
kept_of false true = Some Record
kept_of true true = None

abbrev pub run_from : Option Text → Option Settings → Option Kept → (Text → Option Text) → Option AskedRun
run_from (Some executable) (Some settings) (Some kept) given = Some (record {
  executable = executable;
  input = given (codes "input");
  faults = given (codes "faults");
  settings = settings;
  kept = kept;
})
run_from _ _ _ given = None

abbrev pub asked_run : Option Mode → Option Kept → (Text → Option Text) → Option AskedRun
asked_run mode kept given = run_from (given (codes "exe")) (settings_of mode given) kept given

-- a run of this mode may have these faults, scrubs and steps
abbrev pub may_have : Mode → (faults : Option Text) → (scrub limit : ℕ) → Bool
may_have Voted faults scrub limit = true
may_have Cooperative faults scrub limit = is_none faults && ((scrub == 0) && nat_le limit most_together)

abbrev pub suits_mode : AskedRun → Bool
suits_mode run = may_have run.settings.mode run.faults run.settings.scrub run.settings.limit

-- the run, where it suits its mode
abbrev pub suited : AskedRun → Option AskedRun
suited run = if suits_mode run then Some run else None

abbrev pub run_given : (Text → Option Text) → (flags : Text → Bool) → Option Asked
run_given given flags =
    option_map (λ run. to_run run) (option_and_then suited (asked_run (mode_for given) (kept_of (flags (codes "journal")) (flags (codes "record"))) given))

-- so many replicas, where so many may run, of a number that need not be said
abbrev pub maybe_replicas : Option (Option ℕ) → Option (Option ℕ)
maybe_replicas None = None
maybe_replicas (Some None) = Some None
maybe_replicas (Some (Some n)) = if are_replicas n then Some (Some n) else None

-- the number of an option that need not be said, from the texts that are given under the options' names
abbrev pub maybe_for : Range → (Text → Option Text) → Option (Option ℕ)
maybe_for range given = maybe_number range.least range.most (given range.name)

abbrev pub said_from : (replicas drivers watchdog quantum limit scrub : Option (Option ℕ)) → Option Said
said_from (Some replicas) (Some drivers) (Some watchdog) (Some quantum) (Some limit) (Some scrub) = Some (record {
  replicas = replicas;
  drivers = drivers;
  watchdog = watchdog;
  quantum = quantum;
  limit = limit;
  scrub = scrub;
})
said_from _ _ _ _ _ _ = None

-- the numbers that are said
abbrev pub said_given : (Text → Option Text) → Option Said
said_given given = said_from
    (maybe_replicas (maybe_for replicas_range given))
    (maybe_for drivers_range given)
    (maybe_for watchdog_range given)
    (maybe_for quantum_range given)
    (maybe_for limit_range given)
    (maybe_for scrub_range given)

abbrev pub audit_from : Option Text → Option Said → Option Text → (input faults : Option Text) → (json : Bool) → Option AskedAudit
audit_from (Some executable) (Some said) (Some journal) input faults json =
    Some (record { executable = executable; input = input; faults = faults; said = said; journal = journal; json = json })
audit_from _ _ _ input faults json = None

-- The words of an audit don't say a mode: the journal does.
abbrev pub audit_given : (Text → Option Text) → (flags : Text → Bool) → Option AskedAudit
audit_given given flags = audit_from (given (codes "exe")) (said_given given) (given (codes "journal")) (given (codes "input")) (given (codes "faults")) (flags (codes "json"))

abbrev pub plan_from : Option Text → Option Text → Option Text → Option AskedPlan
plan_from (Some executable) (Some plan) input = Some (record { executable = executable; plan = plan; input = input })
plan_from _ _ input = None

abbrev pub plan_given : (Text → Option Text) → Option AskedPlan
plan_given given = plan_from (given (codes "exe")) (given (codes "plan")) (given (codes "input"))

abbrev pub plain_given : (Text → Option Text) → (flags : Text → Bool) → Option Asked
plain_given given flags = option_map (λ plan. to_plain plan) (plan_given given)

abbrev pub races_given : (Text → Option Text) → (flags : Text → Bool) → Option Asked
races_given given flags = option_map (λ plan. to_races plan) (plan_given given)

abbrev pub inject_from : Option ℕ → Option ℕ → Option Text → Option (Option ℕ) → Option Asked
inject_from (Some seed) (Some count) (Some executable) (Some replica) =
    Some (to_inject (record { seed = seed; count = count; executable = executable; replica = replica }))
inject_from _ _ _ _ = None

abbrev pub inject_given : (Text → Option Text) → (flags : Text → Bool) → Option Asked
inject_given given flags = inject_from (given_number 0 (2 ^ 64 - 1) (given (codes "seed"))) (given_number 1 256 (given (codes "count")))
    (given (codes "exe")) (maybe_number 0 4 (given (codes "replica")))

abbrev pub bench_from : Option ℕ → Option ℕ → Option Asked
bench_from (Some seed) (Some size) = Some (to_bench (record { seed = seed; size = size }))
bench_from _ _ = None

abbrev pub bench_given : (Text → Option Text) → (flags : Text → Bool) → Option Asked
bench_given given flags = bench_from (given_number 0 (2 ^ 64 - 1) (given (codes "seed"))) (given_number 1 2000 (given (codes "size")))

-- ---- how each is spelled

-- a command's name, what may stand behind it, and what it asks for
pub record Spelling (A : Type 0) : Type 0 where
  pub name : Text
  pub syntax : Syntax
  pub given : (Text → Option Text) → (flags : Text → Bool) → Option A

-- the options of a run that have a value, but for its mode
abbrev pub run_options : List Text
run_options = codes "input" ∷ codes "faults" ∷ map (λ range. range.name) ranges

abbrev pub run_syntax : Syntax
run_syntax = record {
  places = codes "exe" ∷ [];
  needed = [];
  valued = codes "mode" ∷ run_options;
  flags = codes "journal" ∷ codes "record" ∷ [];
}

-- an executable and a journal that is said to be of its run
abbrev pub audit_syntax : Syntax
audit_syntax = record {
  places = codes "exe" ∷ [];
  needed = codes "journal" ∷ [];
  valued = run_options;
  flags = codes "json" ∷ [];
}

-- an executable and a journal whose plan it is to follow
abbrev pub plan_syntax : Syntax
plan_syntax = record { places = codes "exe" ∷ []; needed = codes "plan" ∷ []; valued = codes "input" ∷ []; flags = [] }

abbrev pub inject_syntax : Syntax
inject_syntax = record {
  places = codes "seed" ∷ codes "count" ∷ codes "exe" ∷ [];
  needed = [];
  valued = codes "replica" ∷ [];
  flags = [];
}

abbrev pub bench_syntax : Syntax
bench_syntax = record { places = codes "seed" ∷ codes "size" ∷ []; needed = []; valued = []; flags = [] }

abbrev pub run_spelling : Spelling Asked
run_spelling = record { name = codes "run"; syntax = run_syntax; given = run_given }

abbrev pub plain_spelling : Spelling Asked
plain_spelling = record { name = codes "plain"; syntax = plan_syntax; given = plain_given }

abbrev pub races_spelling : Spelling Asked
races_spelling = record { name = codes "races"; syntax = plan_syntax; given = races_given }

abbrev pub inject_spelling : Spelling Asked
inject_spelling = record { name = codes "inject"; syntax = inject_syntax; given = inject_given }

abbrev pub bench_spelling : Spelling Asked
bench_spelling = record { name = codes "bench"; syntax = bench_syntax; given = bench_given }

abbrev pub spellings : List (Spelling Asked)
spellings = run_spelling ∷ plain_spelling ∷ races_spelling ∷ inject_spelling ∷ bench_spelling ∷ []

abbrev pub audit_spelling : Spelling AskedAudit
audit_spelling = record { name = codes "audit"; syntax = audit_syntax; given = audit_given }

abbrev pub audit_spellings : List (Spelling AskedAudit)
audit_spellings = audit_spelling ∷ []

-- what the uses ask for, where they are whole
abbrev pub asked_of : {A : Type 0} → Spelling A → List Use → Option A
asked_of s uses = if is_whole s.syntax uses then s.given (text_of uses) (flags_in uses) else None

-- what the words behind the command's name ask for
abbrev pub asked_in_words : {A : Type 0} → List Text → Spelling A → Option A
asked_in_words words s = option_and_then (asked_of s) (uses_from s.syntax words s.syntax.places None)

-- the one of this name
abbrev pub spelling_of : {A : Type 0} → List (Spelling A) → Text → Option (Spelling A)
spelling_of all command = find (λ s. bytes_eq s.name command) all

-- what the words ask for where these are the commands; the first word is the program's name
abbrev pub asked_among : {A : Type 0} → List (Spelling A) → List Text → Option A
asked_among all (program ∷ command ∷ words) = option_and_then (asked_in_words words) (spelling_of all command)
asked_among all words = None

-- the command that the words spell
abbrev pub command_of : List Text → Option Asked
command_of = asked_among spellings

-- the audit that the words spell
abbrev pub audit_of : List Text → Option AskedAudit
audit_of = asked_among audit_spellings

-- ---- the commands of the code

abbrev pub text_in : Option (Bor Text) → Option Text
text_in = option_map (λ name. name.now)

abbrev pub run_by : RunCommand → AskedRun
run_by run = record {
  executable = run.executable.now;
  input = text_in run.input;
  faults = text_in run.faults;
  settings = run.settings;
  kept = run.kept;
}

abbrev pub audit_by : AuditCommand → AskedAudit
audit_by audit = record {
  executable = audit.executable.now;
  input = text_in audit.input;
  faults = text_in audit.faults;
  said = audit.said;
  journal = audit.journal.now;
  json = audit.json;
}

abbrev pub plan_by : PlanCommand → AskedPlan
plan_by plan = record { executable = plan.executable.now; plan = plan.plan.now; input = text_in plan.input }

abbrev pub inject_by : InjectCommand → AskedInject
inject_by inject = record { seed = inject.seed; count = inject.count; executable = inject.executable.now; replica = inject.replica }

abbrev pub bench_by : BenchCommand → AskedBench
bench_by bench = record { seed = bench.seed; size = bench.size }

-- what a command of the code asks for
abbrev pub asked_by : Command → Asked
asked_by (Run run) = to_run (run_by run)
asked_by (Plain plain) = to_plain (plan_by plain)
asked_by (Races races) = to_races (plan_by races)
asked_by (Inject inject) = to_inject (inject_by inject)
asked_by (Bench bench) = to_bench (bench_by bench)

-- the numbers of what is asked for lie in their ranges, and a run suits its mode
abbrev pub Fits : Asked → Type 0
Fits (to_run run) = InRange run.settings × SuitsMode run
Fits (to_plain plain) = Unit {0}
Fits (to_races races) = Unit {0}
Fits (to_inject inject) = IsFrom 1 256 inject.count × IfSome inject.replica (IsFrom 0 4)
Fits (to_bench bench) = IsFrom 1 2000 bench.size

-- the numbers that are said lie in their ranges
pub record SaidInRange (said : Said) : Type 0 where
  pub replicas : IfSome said.replicas IsReplicas
  pub drivers : IfSome said.drivers (IsIn drivers_range)
  pub watchdog : IfSome said.watchdog (IsIn watchdog_range)
  pub quantum : IfSome said.quantum (IsIn quantum_range)
  pub limit : IfSome said.limit (IsIn limit_range)
  pub scrub : IfSome said.scrub (IsIn scrub_range)

-- the same of an audit
abbrev pub AuditFits : AskedAudit → Type 0
AuditFits audit = SaidInRange audit.said

-- what a parse that failed says of the words
abbrev pub refusal_of : ErrorKind → WordsError
refusal_of kind.OutOfMemory = NoMemory
refusal_of _ = Bad
