-- What an audit asks for, step by step, and why nothing is told of its journal.
use Rattle.std.proofs.Common.{◌≡◌, ◌∙◌, ℕ, false, List, [], ◌∷◌, ◌++◌, Option, None, Result, Ok, Err, IfErr, ap, sym, subst}
use Rattle.std.specs.Prelude.{IsErrAnd}
use Rattle.std.proofs.lemmas.List.{map-append}
use Rattle.ro_io.specs.Outside.{Asks, Calls, Files, unfailed}
use Rattle.ro_io.proofs.Fetches.{unfailed-more}
use Rattle.ro_journal_text.specs.Records.{Any}
use Rattle.ro_journal_text.specs.declared.records.Recorded.{Recorded}
use Rattle.ro_legal.specs.Core.{Job}
use Rattle.ro_legal.specs.Modes.{Suits}
use Rattle.ro_report.specs.declared.answers.Answer.{Answer}
use Rattle.ro_report.specs.declared.answers.FileKind.TheVariants.{Faults}
use Rattle.ro_words.specs.Commands.{AskedAudit, AskedRun, to_run}
use Rattle.ro_files.specs.Causes.{AsksFor, AsksTo, JobCause}
use Rattle.ro_files.specs.Files.{named, names_before, recorded_in, IsJobOf}
use Rattle.ro_tell.specs.Agreeing.{IsAudited, IsJournalOf, other_files, other_said, run_for}
use Rattle.ro_tell.specs.Causes.{AuditCause, HasJournal, RefusesJob, RefusesSaid, audit_names, of_job, of_run, of_said}

-- `?` passes an error up as it is
pub passed_up : {T E : Type 0} (r : Result T E) (e : E) (P : E → Type 0) → IsErrAnd r (λ y. y ≡ e) → P e → IfErr r P
passed_up (Ok x) e P is p = tt
passed_up (Err y) e P is p = subst P (sym is) p

-- A journal that was read, and what is done behind that.
module _ (files : Option Files) (asked : AskedAudit) (journal : Any) (old mid : Calls) (is_read : IsJournalOf files asked.journal journal) (first : Asks old mid (unfailed (asked.journal ∷ []))) where
  abbrev has : HasJournal files asked old mid
  has = record { journal = journal; is_read = is_read; asks = first }

  pub said_cause : (before after : ℕ) (answer : Answer) → RefusesSaid asked.said journal.recorded answer → AuditCause files asked before after old mid answer
  said_cause before after answer refused = of_said has refused

  -- a run that was asked for, by the store as it was told then
  module _ (same_said : other_said asked.said journal.recorded ≡ None) (new : Calls) (now : Option Files) (told : now ≡ files) (run : AskedRun) (is : run ≡ run_for asked journal) where
    pub run_cause : (before middle after : ℕ) (answer : Answer) → middle ≡ before → JobCause now (to_run run) middle after answer → AsksFor now (to_run run) mid new answer
        → AuditCause files asked before after old new answer
    run_cause before middle after answer calm cause asks = of_run (record {
      mid = mid;
      has = has;
      same_said = same_said;
      cause = subst (λ (r : AskedRun). JobCause files (to_run r) before after answer) is
          (subst (λ (count : ℕ). JobCause files (to_run run) count after answer) calm (subst (λ (t : Option Files). JobCause t (to_run run) middle after answer) told cause));
      asks_run = subst (λ (r : AskedRun). AsksFor files (to_run r) mid new answer) is (subst (λ (t : Option Files). AsksFor t (to_run run) mid new answer) told asks);
    })

    pub all_asks : AsksTo now (to_run run) mid new Faults → Asks old new (unfailed (audit_names asked))
    all_asks to =
        let names : Asks mid new (unfailed ((run.executable ∷ named run.input) ++ named run.faults)) =
        subst (Asks mid new) (sym (map-append (λ name. record { name = name; failed = false }) (names_before (to_run run) Faults) (named run.faults))) to.asks in
        let its : Asks mid new (unfailed ((asked.executable ∷ named asked.input) ++ named asked.faults)) =
        subst (λ (r : AskedRun). Asks mid new (unfailed ((r.executable ∷ named r.input) ++ named r.faults))) is names in
        unfailed-more old mid new (asked.journal ∷ []) ((asked.executable ∷ named asked.input) ++ named asked.faults) first its

    module _ (job : Job) (said : Recorded) (fetched : (of : IsJobOf now run job) × (recorded_in of ≡ said)) where
      its_job : (of : IsJobOf files (run_for asked journal) job) × (recorded_in of ≡ said)
      its_job =
          subst (λ (r : AskedRun). (of : IsJobOf files r job) × (recorded_in of ≡ said)) is
          (subst (λ (t : Option Files). (of : IsJobOf t run job) × (recorded_in of ≡ said)) told fetched)

      pub job_cause : (before after : ℕ) (answer : Answer) → AsksTo now (to_run run) mid new Faults → RefusesJob journal said job answer → AuditCause files asked before after old new answer
      job_cause before after answer to refused = of_job (record {
        journal = journal;
        is_read = is_read;
        same_said = same_said;
        job = job;
        of = its_job.0;
        asks = all_asks to;
        refused = subst (λ (r : Recorded). RefusesJob journal r job answer) (sym its_job.1) refused;
      })

      pub is_audited : other_files journal.recorded said ≡ None → Suits journal.mode job → IsAudited files asked journal job
      is_audited same suits = record {
        is_read = is_read;
        same_said = same_said;
        of = its_job.0;
        same_files = ap (other_files journal.recorded) its_job.1 ∙ same;
        suits = suits;
      }
