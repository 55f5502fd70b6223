-- What a journal is judged to be.
use Rattle.std.specs.Prelude.{◌≡◌, ◌≢◌, ⊤, IfSome, ℕ, suc, List, [], ◌∷◌, ◌++◌, length, map, take, Option, Some, None, Ok, option_map, slice_get}
use Rattle.ro_journal.specs.declared.How.{How}
use Rattle.ro_journal.specs.declared.How.TheVariants as how
use Rattle.ro_journal.specs.Losers.{numbers}
use Rattle.ro_journal.specs.declared.Entry.{Entry}
use Rattle.ro_journal.specs.declared.Entry.TheVariants.{Vote, Scrub}
use Rattle.ro_journal.specs.Plan.{outcome_of}
use Rattle.ro_plans.specs.Plans.{plan_in}
use Rattle.ro_journal_text.specs.Records.{Any}
use Rattle.ro_io.specs.Outside.{Files}
use Rattle.ro_legal.specs.Core.{Job}
use Rattle.ro_legal.specs.Modes.{Mode, InMode, Suits}
use Rattle.ro_legal.specs.Rules.{Legal as IsLegal}
use Rattle.ro_event.specs.Views.{View}
use Rattle.ro_core.specs.Seen.{EndsByScrub, ShowsViews}
use Rattle.ro_coop_core.specs.Seen.{ShowsViews as ShowsUnlike}
use Rattle.ro_cores.specs.Loans.{IsJoined}
use Rattle.ro_audit.specs.Audits.{FirstIllegal, NextUpTo}
use Rattle.ro_tell.specs.Agreeing.{IsAudited}
use Rattle.ro_words.specs.Commands.{AskedAudit}
use Rattle.ro_findings.specs.declared.findings.Ended.{Ended}
use Rattle.ro_findings.specs.declared.findings.Ended.TheVariants.{Exit, Deadlock, Trap, Limit, Differ, NoMajority, Sink}
use Rattle.ro_findings.specs.declared.findings.Split.{Split}
use Rattle.ro_findings.specs.declared.findings.Split.TheVariants as split
use Rattle.ro_findings.specs.declared.findings.Verdict.{Verdict}
use Rattle.ro_findings.specs.declared.findings.Verdict.TheVariants.{Legal, Illegal}
use Rattle.ro_findings.specs.declared.findings.CopyMade.{CopyMade}
use Rattle.ro_findings.specs.declared.findings.Differed.{Differed}
use Rattle.ro_findings.specs.declared.findings.Differed.TheVariants.{AtVote, AtScrub}
use Rattle.ro_findings.specs.declared.findings.Findings.{Findings}
use Rattle.ro_findings.specs.declared.findings.Odd.{Odd}

-- the same job, to be run in the mode
abbrev pub job_in : Mode → Job → Job
job_in mode job = record job { settings = record job.settings { mode = mode } }

-- the end that is told with more beside it
abbrev pub how_of : Ended → How
how_of (Exit status) = how.Exit status
how_of (Deadlock threads) = how.Deadlock
how_of (Trap cause at) = how.Trap cause
how_of (Limit steps next threads) = how.Limit steps next
how_of (Differ split) = how.Differ
how_of (NoMajority split) = how.NoMajority
how_of (Sink taken) = how.Sink taken

-- replicas that differ are told by views where there are some, and else whole
abbrev pub IsSplitBy : List View → Split → Type 0
IsSplitBy views (split.AtVote fields) = views ≢ []
IsSplitBy views (split.AtScrub threads pages) = views ≡ []

-- where an end is by replicas that differ, it tells them so
abbrev pub TellsSplit : Split → Ended → Type 0
TellsSplit split (Differ told) = told ≡ split
TellsSplit split (NoMajority told) = told ≡ split
TellsSplit split _ = ⊤

-- replicas that differ are told by their views where the run ended in the place of a vote, and whole where it ended in that of a
-- scrub, as no cooperative run does
abbrev pub IsSplitOf : Job → List Entry → Split → Type 0
IsSplitOf job entries (split.AtVote fields) =
    InMode job.settings.mode ((views : List View) × ShowsViews job entries views) ((views : List View) × ShowsUnlike job entries views)
IsSplitOf job entries (split.AtScrub threads pages) = InMode job.settings.mode (EndsByScrub job entries []) ⊥

abbrev pub IsEnded : Job → List Entry → Ended → Type 0
IsEnded job entries (Differ split) = IsSplitOf job entries split
IsEnded job entries (NoMajority split) = IsSplitOf job entries split
IsEnded job entries _ = ⊤

-- each entry is what the run does next, or the one that is told is the first that is not
abbrev pub TellsNext : Job → List Entry → Option Odd → Type 0
TellsNext job entries None = NextUpTo job entries None
TellsNext job entries (Some odd) = NextUpTo job entries (Some odd.place) × (slice_get entries odd.place ≡ Some odd.entry)

-- the journal is legal and all that was got stands in rows, with a plan of so many steps, this end and this first entry that is not what
-- the run does next; or the entry at the place is the first that is not allowed, and why
abbrev pub Judges : Job → List Entry → Verdict → Type 0
Judges job entries (Legal steps end odd) =
    IsLegal job entries × IsJoined job entries × (steps ≡ length (plan_in job.settings.mode entries)) × (option_map how_of end ≡ outcome_of entries) × IfSome end (IsEnded job entries)
    × TellsNext job entries odd
Judges job entries (Illegal place entry why) = FirstIllegal job entries place why × (slice_get entries place ≡ Some entry)

-- a copy that a vote or a scrub made: the place of its entry, the thread that was voted on, and the replica that lost
pub record Copied : Type 0 where
  pub place : ℕ
  pub thread : Option ℕ
  pub replica : ℕ

-- the thread that was voted on, where a replica differed at a vote
abbrev pub thread_of : Differed → Option ℕ
thread_of (AtVote thread parts) = Some thread
thread_of (AtScrub threads pages) = None

-- the same of a copy that is told
abbrev pub copied_of : CopyMade → Copied
copied_of copy = record { place = copy.place; thread = thread_of copy.differed; replica = copy.replica }

-- the copies of these losers
abbrev pub copies_of : (place : ℕ) → (thread : Option ℕ) → (losers : List ℕ) → List Copied
copies_of place thread losers = map (λ replica. record { place = place; thread = thread; replica = replica }) losers

-- the copies that an entry makes: one of each replica that loses a vote or a scrub
abbrev pub copies_at : (place : ℕ) → Entry → List Copied
copies_at place (Vote thread count won lost did) = copies_of place (Some thread) (numbers lost)
copies_at place (Scrub won lost) = copies_of place None (numbers lost)
copies_at place entry = []

-- those of entries from this place on
abbrev pub copies_from : (place : ℕ) → List Entry → List Copied
copies_from place [] = []
copies_from place (entry ∷ entries) = copies_at place entry ++ copies_from (suc place) entries

-- the entries that are allowed
abbrev pub allowed_in : Verdict → List Entry → List Entry
allowed_in (Legal steps end odd) entries = entries
allowed_in (Illegal place entry why) entries = take place entries

-- what is found of a journal
pub record Finds (job : Job) (entries : List Entry) (findings : Findings) : Type 0 where
  pub count : findings.entries ≡ length entries
  pub judged : Judges job entries findings.verdict
  pub copies : map copied_of findings.copies.items ≡ copies_from 0 (allowed_in findings.verdict entries)

-- the journal of an audit was judged, of a job in the journal's mode, and this was found
pub record IsAuditOf (files : Option Files) (asked : AskedAudit) (findings : Findings) : Type 0 where
  pub journal : Any
  pub job : Job
  pub audited : IsAudited files asked journal job
  pub finds : Finds (job_in journal.mode job) journal.entries findings
