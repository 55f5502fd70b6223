-- Why a file of a command is refused, and what a list of faults is.
use Rattle.std.proofs.Common.{◌≡◌, ◌⊎◌, inl, inr, ℕ, zero, suc, ◌+◌, ◌≤◌, Bool, true, false, List, [], ◌∷◌, ◌++◌, length, Option, Some, None, Result, Ok, Err, refl, sym, ap, ◌∙◌, subst, arith}
use Rattle.std.specs.Prelude.{nat_le, nat_lt, ◌&&◌, ◌^◌, if◌then◌else◌}
use Rattle.std.specs.List.{All}
use Rattle.std.proofs.lemmas.Bool.{and_parts, leb-true}
use Rattle.ro_io.specs.Outside.{Asks, Call, Calls, Files, Rose, unfailed}
use Rattle.ro_io.proofs.Fetches.{asks-none, asks-more, unfailed-more}
use Rattle.ro_text.specs.Numbers.{within}
use Rattle.ro_text.specs.Lines.{words_of, parts_of}
use Rattle.ro_faults.specs.declared.Fault.{Fault}
use Rattle.ro_faults.specs.declared.errors.FaultsCode.{FaultsCode}
use Rattle.ro_faults.specs.declared.errors.FaultsCode.TheVariants.{Form, Range, Count}
use Rattle.ro_faults.specs.declared.errors.FaultsError.{FaultsError}
use Rattle.ro_faults.specs.declared.errors.FaultsError.TheVariants.{Bad}
use Rattle.ro_faults.specs.Texts.{is_target, is_fault, ranged, fault_of, line_fault, counted, in_line, before, end_faults, lines_faults, file_faults}
use Rattle.ro_settings.specs.Ranges.{InRange}
use Rattle.ro_settings.specs.declared.Mode.{Mode}
use Rattle.ro_settings.specs.declared.Mode.TheVariants.{Voted, Cooperative}
use Rattle.ro_settings.specs.declared.Settings.{Settings}
use Rattle.ro_image.specs.Image.{Image}
use Rattle.ro_replica.specs.Seen.{AreFaults}
use Rattle.ro_report.specs.declared.answers.FileKind.{FileKind}
use Rattle.ro_report.specs.declared.answers.FileKind.TheVariants.{Exe, Input, Faults, Plan}
use Rattle.ro_report.specs.declared.answers.Answer.{Answer}
use Rattle.ro_report.specs.declared.answers.Answer.TheVariants.{Exit, Deadlock, Trap, Unended, Differ, NoMajority, Limit, SinkFailed, StoreFailed, BadExe, BadFaults, BadPlan, Other, NoStep, NoRace, Race, BadWords, TooLong, NoMemory}
use Rattle.ro_words.specs.declared.commands.WordsError.{WordsError}
use Rattle.ro_words.specs.declared.commands.WordsError.TheVariants.{NoMemory as NoRoom}
use Rattle.ro_words.specs.Commands.{Asked, AskedBench, AskedPlan, AskedRun, SuitsMode, command_of, to_bench, to_plain, to_races, to_run}
use Rattle.ro_files.specs.Files.{most_of, last_in, name_in, named, names_before, IsContent, IsFile}
use Rattle.ro_journal_text.specs.Records.{Any, file_any}
use Rattle.ro_journal_text.specs.declared.records.Recorded.{Recorded}
use Rattle.ro_files.specs.Refusals.{RefusesFile, RefusesContent, RefusesExe, RefusesFiles, RefusesList, RefusesPlan}
use Rattle.ro_files.specs.Causes.{IsAccepted, HasInput, ComesAt, IsNamedFile, IsRefusal, IsTooLong, IsBadList, JobCause, RefusalCause, AsksAt, AsksTo, AsksFor, replicas_in}
use Rattle.ro_legal.specs.Jobs.{CanRun, job_of}
use Rattle.ro_legal.specs.Modes.{Suits}
use Rattle.ro_legal.specs.Rules.{IsFit}

-- a count that rose later rose
pub rose_later : (first mid last : ℕ) → first ≤ mid → Rose mid last → Rose first last
rose_later first mid last le (inl less) = inl (omega arith)
rose_later first mid last le (inr full) = inr full

-- and it stays so
pub rose_before : (first mid last : ℕ) → Rose first mid → mid ≤ last → Rose first last
rose_before first mid last (inl less) le = inl (omega arith)
rose_before first mid last (inr full) le = inr (omega arith)

-- why a command is refused, and which files were asked for
abbrev Refused : Option Files → Asked → (before after : ℕ) → (old new : Calls) → Answer → Type 0
Refused files asked before after old new answer = JobCause files asked before after answer × AsksFor files asked old new answer

-- The file of a kind, behind those before it.
module _ (files : Option Files) (asked : Asked) (old mid new : Calls) (kind : FileKind) (earlier : ComesAt files asked kind) (before : Asks old mid (unfailed (names_before asked kind))) where
  asks_at : (calls : List Call) → Asks mid new calls → AsksAt files asked old new kind calls
  asks_at calls asks = record { earlier = earlier; asks = asks-more old mid new _ _ before asks }

  pub asks_to : Asks mid new (unfailed (named (name_in asked kind))) → AsksTo files asked old new kind
  asks_to asks = asks_at _ asks

  its : (name : List ℕ) → name_in asked kind ≡ Some name → Asks mid new (unfailed (name ∷ [])) → AsksTo files asked old new kind
  its name is asks = asks_to (subst (λ (o : Option (List ℕ)). Asks mid new (unfailed (named o))) (sym is) asks)

  module _ (first middle last : ℕ) (le : first ≤ middle) where
    -- it is named, and refused
    file_cause : (name : List ℕ) → name_in asked kind ≡ Some name → (answer : Answer) → RefusesFile files kind name middle last mid new answer → Refused files asked first last old new answer
    file_cause name is StoreFailed h = (rose_later first middle last le h.0, (kind, record { name = name; name_is = is; asks = asks_at _ h.1 }))
    file_cause name is (TooLong which) h =
        subst (λ (k : FileKind). IsTooLong files asked k × AsksTo files asked old new k) (sym h.0)
        (record { earlier = earlier; content = h.1.0; file = record { name = name; name_is = is; content_is = h.1.1 }; long = h.1.2 }, its name is h.2)
    file_cause name is NoMemory h = (tt, inr (kind, its name is h))
    file_cause name is (Exit status) h = absurd h
    file_cause name is Deadlock h = absurd h
    file_cause name is (Trap cause) h = absurd h
    file_cause name is Differ h = absurd h
    file_cause name is NoMajority h = absurd h
    file_cause name is (Limit steps next) h = absurd h
    file_cause name is (SinkFailed taken) h = absurd h
    file_cause name is (BadExe code) h = absurd h
    file_cause name is (BadFaults line code) h = absurd h
    file_cause name is (BadPlan line code) h = absurd h
    file_cause name is (Other line) h = absurd h
    file_cause name is (NoStep place) h = absurd h
    file_cause name is NoRace h = absurd h
    file_cause name is (Race i j byte) h = absurd h
    file_cause name is Unended h = absurd h
    file_cause name is BadWords h = absurd h

    -- the same of one that need not be named
    pub content_cause : (answer : Answer) → RefusesContent files kind (name_in asked kind) middle last mid new answer → Refused files asked first last old new answer
    content_cause answer h = by (name_in asked kind) refl h
      where
        by : (o : Option (List ℕ)) → name_in asked kind ≡ o → RefusesContent files kind o middle last mid new answer → Refused files asked first last old new answer
        by None e h = absurd h
        by (Some name) e h = file_cause name e answer h

-- the executable and the input
pub both_asked : (asked : Asked) (old mid new : Calls) → Asks old mid (unfailed (names_before asked Input)) → Asks mid new (unfailed (named (name_in asked Input))) → Asks old new (unfailed (names_before asked Faults))
both_asked asked old mid new first second = unfailed-more old mid new (names_before asked Input) (named (name_in asked Input)) first second

-- a list that is refused
module _ (files : Option Files) (asked : Asked) (first last : ℕ) (content : List ℕ) (accepted : IsAccepted files asked) (input : HasInput files asked) where
  named_list : (o : Option (List ℕ)) → name_in asked Faults ≡ o → IsContent files Faults o content → (line : ℕ) (code : FaultsCode) → file_faults (replicas_in asked) content ≡ Err (Bad line code) → IsBadList files asked line code
  named_list None e is line code h =
      let f : Ok [] ≡ Err (Bad line code) = ap (file_faults (replicas_in asked)) (sym is) ∙ h in absurd (cc)
  named_list (Some name) e is line code h = record { earlier = (accepted, input); content = content; file = record { name = name; name_is = e; content_is = is.0 }; short = is.1; bad = h }

  pub faults_cause : IsContent files Faults (name_in asked Faults) content → (answer : Answer) → RefusesList (replicas_in asked) content answer → JobCause files asked first last answer
  faults_cause is (BadFaults line code) h = named_list (name_in asked Faults) refl is line code h
  faults_cause is NoMemory h = tt
  faults_cause is StoreFailed h = absurd h
  faults_cause is (TooLong which) h = absurd h
  faults_cause is (Exit status) h = absurd h
  faults_cause is Deadlock h = absurd h
  faults_cause is (Trap cause) h = absurd h
  faults_cause is Unended h = absurd h
  faults_cause is Differ h = absurd h
  faults_cause is NoMajority h = absurd h
  faults_cause is (Limit steps next) h = absurd h
  faults_cause is (SinkFailed taken) h = absurd h
  faults_cause is (BadExe code) h = absurd h
  faults_cause is (BadPlan line code) h = absurd h
  faults_cause is (Other line) h = absurd h
  faults_cause is (NoStep place) h = absurd h
  faults_cause is NoRace h = absurd h
  faults_cause is (Race i j byte) h = absurd h
  faults_cause is BadWords h = absurd h

  pub text_cause : (name : List ℕ) → name_in asked Plan ≡ Some name → IsFile files name content → length content ≤ most_of Plan → (answer : Answer) → RefusesPlan content answer → JobCause files asked first last answer
  text_cause name e is short (BadPlan line code) h = record { earlier = (accepted, input); content = content; file = record { name = name; name_is = e; content_is = is }; short = short; bad = h }
  text_cause name e is short NoMemory h = tt
  text_cause name e is short StoreFailed h = absurd h
  text_cause name e is short (TooLong which) h = absurd h
  text_cause name e is short (Exit status) h = absurd h
  text_cause name e is short Deadlock h = absurd h
  text_cause name e is short (Trap cause) h = absurd h
  text_cause name e is short Unended h = absurd h
  text_cause name e is short Differ h = absurd h
  text_cause name e is short NoMajority h = absurd h
  text_cause name e is short (Limit steps next) h = absurd h
  text_cause name e is short (SinkFailed taken) h = absurd h
  text_cause name e is short (BadExe code) h = absurd h
  text_cause name e is short (BadFaults line code) h = absurd h
  text_cause name e is short (Other line) h = absurd h
  text_cause name e is short (NoStep place) h = absurd h
  text_cause name e is short NoRace h = absurd h
  text_cause name e is short (Race i j byte) h = absurd h
  text_cause name e is short BadWords h = absurd h

  -- a record of other files
  pub other_cause : (name : List ℕ) → name_in asked Plan ≡ Some name → IsFile files name content → length content ≤ most_of Plan → (journal : Any) → file_any content ≡ Ok journal
      → (answer : Answer) → RefusesFiles journal.recorded accepted.executable input.input answer → JobCause files asked first last answer
  other_cause name e is short journal read (Other line) h = record {
    accepted = accepted;
    input = input;
    content = content;
    file = record { name = name; name_is = e; content_is = is };
    short = short;
    journal = journal;
    journal_is = read;
    other = h;
  }
  other_cause name e is short journal read NoMemory h = absurd h
  other_cause name e is short journal read StoreFailed h = absurd h
  other_cause name e is short journal read (TooLong which) h = absurd h
  other_cause name e is short journal read (Exit status) h = absurd h
  other_cause name e is short journal read Deadlock h = absurd h
  other_cause name e is short journal read (Trap cause) h = absurd h
  other_cause name e is short journal read Unended h = absurd h
  other_cause name e is short journal read Differ h = absurd h
  other_cause name e is short journal read NoMajority h = absurd h
  other_cause name e is short journal read (Limit steps next) h = absurd h
  other_cause name e is short journal read (SinkFailed taken) h = absurd h
  other_cause name e is short journal read (BadExe code) h = absurd h
  other_cause name e is short journal read (BadFaults line code) h = absurd h
  other_cause name e is short journal read (BadPlan line code) h = absurd h
  other_cause name e is short journal read (NoStep place) h = absurd h
  other_cause name e is short journal read NoRace h = absurd h
  other_cause name e is short journal read (Race i j byte) h = absurd h
  other_cause name e is short journal read BadWords h = absurd h

-- which files were asked for, where one is refused for its content, or none is
module _ (files : Option Files) (asked : Asked) (old new : Calls) where
  pub exe_asks : AsksTo files asked old new Exe → (content : List ℕ) (answer : Answer) → RefusesExe content answer → AsksFor files asked old new answer
  exe_asks to content (BadExe code) h = to
  exe_asks to content NoMemory h = inr (Exe, to)
  exe_asks to content (Exit status) h = absurd h
  exe_asks to content Deadlock h = absurd h
  exe_asks to content (Trap cause) h = absurd h
  exe_asks to content Differ h = absurd h
  exe_asks to content NoMajority h = absurd h
  exe_asks to content (Limit steps next) h = absurd h
  exe_asks to content (SinkFailed taken) h = absurd h
  exe_asks to content (BadFaults line code) h = absurd h
  exe_asks to content (BadPlan line code) h = absurd h
  exe_asks to content (Other line) h = absurd h
  exe_asks to content (NoStep place) h = absurd h
  exe_asks to content NoRace h = absurd h
  exe_asks to content (Race i j byte) h = absurd h
  exe_asks to content Unended h = absurd h
  exe_asks to content BadWords h = absurd h
  exe_asks to content StoreFailed h = absurd h
  exe_asks to content (TooLong which) h = absurd h

  pub list_asks : AsksTo files asked old new Faults → (replicas : ℕ) (content : List ℕ) (answer : Answer) → RefusesList replicas content answer → AsksFor files asked old new answer
  list_asks to replicas content (BadFaults line code) h = to
  list_asks to replicas content NoMemory h = inr (Faults, to)
  list_asks to replicas content (Exit status) h = absurd h
  list_asks to replicas content Deadlock h = absurd h
  list_asks to replicas content (Trap cause) h = absurd h
  list_asks to replicas content Differ h = absurd h
  list_asks to replicas content NoMajority h = absurd h
  list_asks to replicas content (Limit steps next) h = absurd h
  list_asks to replicas content (SinkFailed taken) h = absurd h
  list_asks to replicas content (BadExe code) h = absurd h
  list_asks to replicas content (BadPlan line code) h = absurd h
  list_asks to replicas content (Other line) h = absurd h
  list_asks to replicas content (NoStep place) h = absurd h
  list_asks to replicas content NoRace h = absurd h
  list_asks to replicas content (Race i j byte) h = absurd h
  list_asks to replicas content Unended h = absurd h
  list_asks to replicas content BadWords h = absurd h
  list_asks to replicas content StoreFailed h = absurd h
  list_asks to replicas content (TooLong which) h = absurd h

  pub plan_asks : AsksTo files asked old new Plan → (content : List ℕ) (answer : Answer) → RefusesPlan content answer → AsksFor files asked old new answer
  plan_asks to content (BadPlan line code) h = to
  plan_asks to content NoMemory h = inr (Plan, to)
  plan_asks to content (Exit status) h = absurd h
  plan_asks to content Deadlock h = absurd h
  plan_asks to content (Trap cause) h = absurd h
  plan_asks to content Differ h = absurd h
  plan_asks to content NoMajority h = absurd h
  plan_asks to content (Limit steps next) h = absurd h
  plan_asks to content (SinkFailed taken) h = absurd h
  plan_asks to content (BadExe code) h = absurd h
  plan_asks to content (BadFaults line code) h = absurd h
  plan_asks to content (Other line) h = absurd h
  plan_asks to content (NoStep place) h = absurd h
  plan_asks to content NoRace h = absurd h
  plan_asks to content (Race i j byte) h = absurd h
  plan_asks to content Unended h = absurd h
  plan_asks to content BadWords h = absurd h
  plan_asks to content StoreFailed h = absurd h
  plan_asks to content (TooLong which) h = absurd h

  pub other_asks : AsksTo files asked old new Plan → (recorded : Option Recorded) (executable input : List ℕ) (answer : Answer) → RefusesFiles recorded executable input answer
      → AsksFor files asked old new answer
  other_asks to recorded executable input (Other line) h = to
  other_asks to recorded executable input NoMemory h = absurd h
  other_asks to recorded executable input (BadPlan line code) h = absurd h
  other_asks to recorded executable input (Exit status) h = absurd h
  other_asks to recorded executable input Deadlock h = absurd h
  other_asks to recorded executable input (Trap cause) h = absurd h
  other_asks to recorded executable input Differ h = absurd h
  other_asks to recorded executable input NoMajority h = absurd h
  other_asks to recorded executable input (Limit steps next) h = absurd h
  other_asks to recorded executable input (SinkFailed taken) h = absurd h
  other_asks to recorded executable input (BadExe code) h = absurd h
  other_asks to recorded executable input (BadFaults line code) h = absurd h
  other_asks to recorded executable input (NoStep place) h = absurd h
  other_asks to recorded executable input NoRace h = absurd h
  other_asks to recorded executable input (Race i j byte) h = absurd h
  other_asks to recorded executable input Unended h = absurd h
  other_asks to recorded executable input BadWords h = absurd h
  other_asks to recorded executable input StoreFailed h = absurd h
  other_asks to recorded executable input (TooLong which) h = absurd h

  pub done_asks : AsksTo files asked old new (last_in asked) → (answer : Answer) → (IsRefusal answer → ⊥) → AsksFor files asked old new answer
  done_asks to NoMemory other = inr (last_in asked, to)
  done_asks to StoreFailed other = absurd (other tt)
  done_asks to (BadExe code) other = absurd (other tt)
  done_asks to (BadFaults line code) other = absurd (other tt)
  done_asks to (BadPlan line code) other = absurd (other tt)
  done_asks to (Other line) other = absurd (other tt)
  done_asks to BadWords other = absurd (other tt)
  done_asks to (TooLong which) other = absurd (other tt)
  done_asks to (Exit status) other = to
  done_asks to Deadlock other = to
  done_asks to (Trap cause) other = to
  done_asks to Differ other = to
  done_asks to NoMajority other = to
  done_asks to (Limit steps next) other = to
  done_asks to (SinkFailed taken) other = to
  done_asks to (NoStep place) other = to
  done_asks to NoRace other = to
  done_asks to (Race i j byte) other = to
  done_asks to Unended other = to

-- a made executable has no file
module _ (files : Option Files) (asked : AskedBench) (calls : Calls) where
  none_asked : AsksTo files (to_bench asked) calls calls Exe
  none_asked = record { earlier = tt; asks = asks-none calls }

  never : (kind : FileKind) (name : List ℕ) → name_in (to_bench asked) kind ≡ Some name → ⊥
  never kind name is = let f : None ≡ Some name = is in cc

  pub bench_asks : (answer : Answer) → (IsRefusal answer → JobCause files (to_bench asked) 0 0 answer) → AsksFor files (to_bench asked) calls calls answer
  bench_asks NoMemory h = inl (asks-none calls)
  bench_asks StoreFailed h = absurd (still (h tt))
    where
      still : Rose 0 0 → ⊥
      still (inl less) = omega arith
      still (inr full) = omega arith
  bench_asks (TooLong kind) h = let long = h tt in absurd (never kind long.file.name long.file.name_is)
  bench_asks (BadFaults line code) h = let bad = h tt in absurd (never Faults bad.file.name bad.file.name_is)
  bench_asks (BadPlan line code) h = let bad = h tt in absurd (never Plan bad.file.name bad.file.name_is)
  bench_asks (Other line) h = let other = h tt in absurd (never Plan other.file.name other.file.name_is)
  bench_asks BadWords h = absurd (h tt)
  bench_asks (Exit status) h = none_asked
  bench_asks Deadlock h = none_asked
  bench_asks (Trap cause) h = none_asked
  bench_asks Differ h = none_asked
  bench_asks NoMajority h = none_asked
  bench_asks (Limit steps next) h = none_asked
  bench_asks (SinkFailed taken) h = none_asked
  bench_asks (BadExe code) h = none_asked
  bench_asks (NoStep place) h = none_asked
  bench_asks NoRace h = none_asked
  bench_asks (Race i j byte) h = none_asked
  bench_asks Unended h = none_asked

-- the files of a plan are refused alike, whether it is to be run or checked
module _ (files : Option Files) (asked : AskedPlan) where
  abbrev same_accepted : IsAccepted files (to_plain asked) → IsAccepted files (to_races asked)
  same_accepted h = record { executable = h.executable; executable_is = h.executable_is; accepted = h.accepted }

  abbrev same_input : HasInput files (to_plain asked) → HasInput files (to_races asked)
  same_input h = record { input = h.input; input_is = h.input_is }

  same_turn : (kind : FileKind) → ComesAt files (to_plain asked) kind → ComesAt files (to_races asked) kind
  same_turn Exe h = tt
  same_turn Input h = same_accepted h
  same_turn Faults h = (same_accepted h.0, same_input h.1)
  same_turn Plan h = (same_accepted h.0, same_input h.1)

  same_name : (kind : FileKind) → name_in (to_plain asked) kind ≡ name_in (to_races asked) kind
  same_name Exe = refl
  same_name Input = refl
  same_name Faults = refl
  same_name Plan = refl

  same_file : (kind : FileKind) (content : List ℕ) → IsNamedFile files (to_plain asked) kind content → IsNamedFile files (to_races asked) kind content
  same_file kind content h = record { name = h.name; name_is = sym (same_name kind) ∙ h.name_is; content_is = h.content_is }

  pub races_cause : (before after : ℕ) (answer : Answer) → JobCause files (to_plain asked) before after answer → JobCause files (to_races asked) before after answer
  races_cause before after StoreFailed h = h
  races_cause before after (BadExe code) h = record { content = h.content; file = h.file; bad = h.bad }
  races_cause before after (BadFaults line code) h =
      record { earlier = same_turn Faults h.earlier; content = h.content; file = same_file Faults h.content h.file; short = h.short; bad = h.bad }
  races_cause before after (BadPlan line code) h =
      record { earlier = same_turn Plan h.earlier; content = h.content; file = same_file Plan h.content h.file; short = h.short; bad = h.bad }
  races_cause before after (Other line) h = record {
    accepted = same_accepted h.accepted;
    input = same_input h.input;
    content = h.content;
    file = same_file Plan h.content h.file;
    short = h.short;
    journal = h.journal;
    journal_is = h.journal_is;
    other = h.other;
  }
  races_cause before after (TooLong kind) h =
      record { earlier = same_turn kind h.earlier; content = h.content; file = same_file kind h.content h.file; long = h.long }
  races_cause before after NoMemory h = tt
  races_cause before after (Exit status) h = absurd h
  races_cause before after Deadlock h = absurd h
  races_cause before after (Trap cause) h = absurd h
  races_cause before after Unended h = absurd h
  races_cause before after Differ h = absurd h
  races_cause before after NoMajority h = absurd h
  races_cause before after (Limit steps next) h = absurd h
  races_cause before after (SinkFailed taken) h = absurd h
  races_cause before after (NoStep place) h = absurd h
  races_cause before after NoRace h = absurd h
  races_cause before after (Race i j byte) h = absurd h
  races_cause before after BadWords h = absurd h

  same_at : (old new : Calls) (kind : FileKind) (calls : List Call) → AsksAt files (to_plain asked) old new kind calls → AsksAt files (to_races asked) old new kind calls
  same_at old new kind calls h = record { earlier = same_turn kind h.earlier; asks = subst (λ names. Asks old new (unfailed names ++ calls)) (same_names kind) h.asks }
    where
      same_names : (kind : FileKind) → names_before (to_plain asked) kind ≡ names_before (to_races asked) kind
      same_names Exe = refl
      same_names Input = refl
      same_names Faults = refl
      same_names Plan = refl

  same_to : (old new : Calls) (kind : FileKind) → AsksTo files (to_plain asked) old new kind → AsksTo files (to_races asked) old new kind
  same_to old new kind h = subst (λ (o : Option (List ℕ)). AsksAt files (to_races asked) old new kind (unfailed (named o))) (same_name kind) (same_at old new kind _ h)

  pub races_asks : (old new : Calls) (answer : Answer) → AsksFor files (to_plain asked) old new answer → AsksFor files (to_races asked) old new answer
  races_asks old new StoreFailed h =
      let fails = h.1 in (h.0, record { name = fails.name; name_is = sym (same_name h.0) ∙ fails.name_is; asks = same_at old new h.0 _ fails.asks })
  races_asks old new (BadExe code) h = same_to old new Exe h
  races_asks old new (TooLong kind) h = same_to old new kind h
  races_asks old new (BadFaults line code) h = same_to old new Faults h
  races_asks old new NoMemory (inl none) = inl none
  races_asks old new NoMemory (inr h) = inr (h.0, same_to old new h.0 h.1)
  races_asks old new (Exit status) h = same_to old new Plan h
  races_asks old new Deadlock h = same_to old new Plan h
  races_asks old new (Trap cause) h = same_to old new Plan h
  races_asks old new Differ h = same_to old new Plan h
  races_asks old new NoMajority h = same_to old new Plan h
  races_asks old new (Limit steps next) h = same_to old new Plan h
  races_asks old new (SinkFailed taken) h = same_to old new Plan h
  races_asks old new (BadPlan line code) h = same_to old new Plan h
  races_asks old new (Other line) h = same_to old new Plan h
  races_asks old new (NoStep place) h = same_to old new Plan h
  races_asks old new NoRace h = same_to old new Plan h
  races_asks old new (Race i j byte) h = same_to old new Plan h
  races_asks old new Unended h = same_to old new Plan h
  races_asks old new BadWords h = same_to old new Plan h

-- words spell one run
pub one_run : (words : List (List ℕ)) (one other : AskedRun) → command_of words ≡ Some (to_run one) → command_of words ≡ Some (to_run other) → one ≡ other
one_run words one other e f = let same : Some (to_run one) ≡ Some (to_run other) = sym e ∙ f in cc

-- and so does any other command
pub one_command : (words : List (List ℕ)) (one other : Asked) → command_of words ≡ Some one → command_of words ≡ Some other → one ≡ other
one_command words one other e f = let same : Some one ≡ Some other = sym e ∙ f in cc

-- where there was no memory for words that spell a command, nothing was asked for
pub unread_asks : (files : Option Files) (words : List (List ℕ)) (asked : Asked) (calls : Calls) (error : WordsError) (answer : Answer) → (error ≡ NoRoom) ⊎ (command_of words ≡ None) → (error ≡ NoRoom → answer ≡ NoMemory)
    → command_of words ≡ Some asked → AsksFor files asked calls calls answer
unread_asks files words asked calls error answer (inl wanting) is spelled = subst (AsksFor files asked calls calls) (sym (is wanting)) (inl (asks-none calls))
unread_asks files words asked calls error answer (inr none) is spelled = absurd (let f : None ≡ Some asked = sym none ∙ spelled in cc)

-- a command that is spelled is refused for a cause
pub spelled_cause : (files : Option Files) (words : List (List ℕ)) (asked : Asked) (before after : ℕ) (answer : Answer) → command_of words ≡ Some asked
    → JobCause files asked before after answer → RefusalCause files words before after answer
spelled_cause files words asked before after StoreFailed is h = (asked, is, h)
spelled_cause files words asked before after (TooLong which) is h = (asked, is, h)
spelled_cause files words asked before after (BadExe code) is h = (asked, is, h)
spelled_cause files words asked before after (BadFaults line code) is h = (asked, is, h)
spelled_cause files words asked before after (BadPlan line code) is h = (asked, is, h)
spelled_cause files words asked before after (Other line) is h = (asked, is, h)
spelled_cause files words asked before after NoMemory is h = tt
spelled_cause files words asked before after BadWords is h = absurd h
spelled_cause files words asked before after (Exit status) is h = absurd h
spelled_cause files words asked before after Deadlock is h = absurd h
spelled_cause files words asked before after (Trap cause) is h = absurd h
spelled_cause files words asked before after Unended is h = absurd h
spelled_cause files words asked before after Differ is h = absurd h
spelled_cause files words asked before after NoMajority is h = absurd h
spelled_cause files words asked before after (Limit steps next) is h = absurd h
spelled_cause files words asked before after (SinkFailed taken) is h = absurd h
spelled_cause files words asked before after (NoStep place) is h = absurd h
spelled_cause files words asked before after NoRace is h = absurd h
spelled_cause files words asked before after (Race i j byte) is h = absurd h

-- ---- the faults of a list

-- few, and each flips a bit that is there
abbrev FewFrom : ℕ → List Fault → Type 0
FewFrom line faults = (length faults + line ≤ 257) × All (λ fault. is_target fault.target ≡ true) faults

none_few : (line : ℕ) (faults : List Fault) → line ≤ 257 → [] ≡ faults → FewFrom line faults
none_few line [] low e = (omega arith, λ k d h. absurd (omega arith))
none_few line (fault ∷ faults) low e = absurd (let f : [] ≡ fault ∷ faults = e in cc)

one_more : (line : ℕ) (fault : Fault) (faults : List Fault) → is_target fault.target ≡ true → FewFrom (line + 1) faults → FewFrom line (fault ∷ faults)
one_more line fault faults good rest = (let a = rest.0 in omega arith, all)
  where
    all : All (λ f. is_target f.target ≡ true) (fault ∷ faults)
    all zero d h = good
    all (suc k) d h = rest.1 k d (omega arith)

-- a line that is read is one of the first, and gives a fault of a run
read_good : (replicas line : ℕ) (o : Option Fault) (fault : Fault) → in_line line (counted line (ranged (is_fault replicas) o)) ≡ Ok fault → (line ≤ 256) × (is_fault replicas fault ≡ true)
read_good replicas line o fault e = by (nat_le line 256) refl e
  where
    tested : (x : Fault) (b : Bool) → is_fault replicas x ≡ b → in_line line (if b then Ok x else Err Range) ≡ Ok fault → is_fault replicas fault ≡ true
    tested x true f h = let same : x ≡ fault = (let g : Ok x ≡ Ok fault = h in cc) in ap (is_fault replicas) (sym same) ∙ f
    tested x false f h = absurd (let g : Err (Bad line Range) ≡ Ok fault = h in cc)

    of : (o : Option Fault) → in_line line (ranged (is_fault replicas) o) ≡ Ok fault → is_fault replicas fault ≡ true
    of None h = absurd (let g : Err (Bad line Form) ≡ Ok fault = h in cc)
    of (Some x) h = tested x (is_fault replicas x) refl h

    by : (b : Bool) → nat_le line 256 ≡ b → in_line line (if b then ranged (is_fault replicas) o else Err Count) ≡ Ok fault → (line ≤ 256) × (is_fault replicas fault ≡ true)
    by true f h = (leb-true line 256 f, of o h)
    by false f h = absurd (let g : Err (Bad line Count) ≡ Ok fault = h in cc)

target_good : (replicas : ℕ) (fault : Fault) → is_fault replicas fault ≡ true → is_target fault.target ≡ true
target_good replicas fault e =
    let a = and_parts (is_target fault.target && nat_lt fault.replica replicas && within 0 15 fault.thread) (within 0 (10 ^ 12) fault.at) e in
    let b = and_parts (is_target fault.target && nat_lt fault.replica replicas) (within 0 15 fault.thread) a.0 in
    (and_parts (is_target fault.target) (nat_lt fault.replica replicas) b.0).0

end_few : (line : ℕ) (part : List ℕ) (faults : List Fault) → line ≤ 257 → end_faults line part ≡ Ok faults → FewFrom line faults
end_few line [] faults low e = none_few line faults low (let f : Ok [] ≡ Ok faults = e in cc)
end_few line (byte ∷ bytes) faults low e = absurd (by (nat_le line 256) e)
  where
    by : (b : Bool) → in_line line (if b then Err Form else Err Count) ≡ Ok faults → ⊥
    by true h = let g : Err (Bad line Form) ≡ Ok faults = h in cc
    by false h = let g : Err (Bad line Count) ≡ Ok faults = h in cc

-- a first line and the others
both : (replicas line : ℕ) (part : List ℕ) (faults : List Fault) (first : Result Fault FaultsError) → in_line line (counted line (line_fault replicas part)) ≡ first → (rest more : Result (List Fault) FaultsError) → more ≡ rest → before first more ≡ Ok faults
    → (line + 1 ≤ 257 → (fs : List Fault) → more ≡ Ok fs → FewFrom (line + 1) fs) → FewFrom line faults
both replicas line part faults (Err error) f rest more g h later = absurd (let k : Err error ≡ Ok faults = h in cc)
both replicas line part faults (Ok x) f (Err error) more g h later = absurd (let k : Err error ≡ Ok faults = ap (before (Ok x)) (sym g) ∙ h in cc)
both replicas line part faults (Ok x) f (Ok xs) more g h later =
    let good = read_good replicas line (fault_of (words_of part)) x f in
    let low : line ≤ 256 = good.0 in
    let same : x ∷ xs ≡ faults = (let k : Ok (x ∷ xs) ≡ Ok faults = ap (before (Ok x)) (sym g) ∙ h in cc) in
    subst (FewFrom line) same (one_more line x xs (target_good replicas x good.1) (later (omega arith) xs g))

lines_few : (replicas line : ℕ) (parts : List (List ℕ)) (faults : List Fault) → line ≤ 257 → lines_faults replicas line parts ≡ Ok faults → FewFrom line faults
lines_few replicas line [] faults low e = none_few line faults low (let f : Ok [] ≡ Ok faults = e in cc)
lines_few replicas line (part ∷ []) faults low e = end_few line part faults low e
lines_few replicas line (part ∷ next ∷ parts) faults low e =
    both replicas line part faults (in_line line (counted line (line_fault replicas part))) refl (lines_faults replicas (line + 1) (next ∷ parts)) (lines_faults replicas (line + 1) (next ∷ parts)) refl e
    (λ low' rest f. lines_few replicas (line + 1) (next ∷ parts) rest low' f)

pub are_faults : (replicas : ℕ) (bytes : List ℕ) (faults : List Fault) → file_faults replicas bytes ≡ Ok faults → AreFaults faults
are_faults replicas bytes faults e =
    let few = lines_few replicas 1 (parts_of bytes) faults (omega arith) e in
    record { few = (let a = few.0 in omega arith); each = few.1 }

-- a run that suits its mode has a job that its mode takes
pub is_fit : (files : Option Files) (asked : AskedRun) (image : Image) (input list : List ℕ) (faults : List Fault) → SuitsMode asked
    → IsContent files Faults asked.faults list → file_faults asked.settings.replicas list ≡ Ok faults → IsFit (job_of image input faults asked.settings)
is_fit files asked image input list faults suits is read = by asked.settings.mode refl
  where
    no_faults : asked.faults ≡ None → faults ≡ []
    no_faults none =
        let nothing : list ≡ [] = subst (λ (o : Option (List ℕ)). IsContent files Faults o list) none is in
        let f : Ok [] ≡ Ok faults = ap (file_faults asked.settings.replicas) (sym nothing) ∙ read in cc

    by : (mode : Mode) → asked.settings.mode ≡ mode → Suits mode (job_of image input faults asked.settings)
    by Voted e = tt
    by Cooperative e = let few = suits e in (no_faults few.0, few.1)

pub can_run : (image : Image) (input bytes : List ℕ) (faults : List Fault) (settings : Settings) → InRange settings → file_faults settings.replicas bytes ≡ Ok faults → CanRun (job_of image input faults settings)
can_run image input bytes faults settings range e = record { settings = range; faults = are_faults settings.replicas bytes faults e }
