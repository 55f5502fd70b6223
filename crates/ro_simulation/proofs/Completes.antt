-- A program comes to its own end, whatever becomes of few replicas.
use Rattle.std.specs.Prelude.{◌≡◌, ◌≢◌, ℕ, ◌≤◌, List, [], ◌∷◌, ◌++◌, length, Some, None}
use Rattle.std.proofs.Common.{refl, sym, ap, ◌∙◌, subst, arith, length-append, append-nil}
use Rattle.ro_journal.specs.declared.How.{How}
use Rattle.ro_journal.specs.declared.How.TheVariants.{Exit, Trap, Deadlock, Limit, Differ, NoMajority, Sink}
use Rattle.ro_journal.specs.declared.Entry.TheVariants.{End}
use Rattle.ro_journal.specs.Plan.{plan_of}
use Rattle.ro_plain.specs.Machine.{IsExecution, AllEnd}
use Rattle.ro_plain.specs.Order.{RaceFree}
use Rattle.ro_plain.proofs.Calls.{some-injective}
use Rattle.ro_legal.specs.Core.{Job, Core, opening_core}
use Rattle.ro_legal.specs.Legal.{MayEnd, due, alone, for_vote, for_free, for_scrub}
use Rattle.ro_simulation.specs.Theorem.{IsComplete, by_exit, by_trap, by_deadlock, TwoThreeOrFive, PassedLimit}
use Rattle.ro_legal.specs.Upsets.{Moment, Comes, journal_of, core_of, Possible}
use Rattle.ro_simulation.specs.Corruptions.{CorruptionsApart}
use Rattle.ro_simulation.proofs.Ends.{end-as}
use Rattle.ro_simulation.proofs.Limits.{passed, no-over-differ}
use Rattle.ro_simulation.proofs.Journals.{after-end-ended}
use Rattle.ro_simulation.proofs.Kept.{plan-same}
use Rattle.ro_simulation.proofs.Corruptions.{journal-append, Along, Stage, goes_on, has_ended, reach, opening-along, apart-policy}

module _ (job : Job) (free : RaceFree job.program) (three : 3 ≤ job.settings.replicas) (count : TwoThreeOrFive job) (ends : AllEnd job.program job.settings.limit) (moments : List Moment) (possible : Possible job moments) (apart : CorruptionsApart job moments) where
  not-passed : (before : List Moment) (steps next : ℕ) → PassedLimit job (journal_of before) steps next → ⊥
  not-passed before steps next p =
      let short = ends (plan_of (journal_of before) ++ p.threads) p.runs in
      let long = length-append (plan_of (journal_of before)) p.threads in
      let a = p.steps_are in let b = p.next_is in let c = p.above in omega arith

  cannot-differ : (core : Core) → length core.replicas ≡ job.settings.replicas → MayEnd job core Differ → (core.due ≡ Some Differ → ⊥) → ⊥
  cannot-differ core same (due e) over = over e
  cannot-differ core same (alone e) over = e
  cannot-differ core same (for_vote t may e) over = let two = e.1 in omega arith
  cannot-differ core same (for_free t may e) over = e
  cannot-differ core same (for_scrub may e) over = let two = e.1 in omega arith

  -- it ends so
  pub complete-still : (how : How) → (core_of job moments).ended ≡ Some how → ((bytes : ℕ) → how ≢ Sink bytes) → IsComplete how
  complete-still how e sinks = by (reach job free (λ before os. Unit {0}) moments (apart-policy job moments apart) [] [] moments [] tt (opening_core job) (sym (append-nil moments)) (opening-along job [] (omega arith)) possible)
    where
      by-how : (odds : List ℕ) (before : List Moment) (last : Core) → Along job odds before last → (other : How) → MayEnd job last other → ((bytes : ℕ) → other ≢ Sink bytes) → IsComplete other
      by-how odds before last along (Exit status) may none = by_exit
      by-how odds before last along (Trap code) may none = by_trap
      by-how odds before last along Deadlock may none = by_deadlock
      by-how odds before last along (Limit steps next) may none = absurd (not-passed before steps next (passed job free odds (journal_of before) last along.holds steps next may))
      by-how odds before last along Differ may none = absurd (cannot-differ last along.holds.replica_count may (λ f. no-over-differ (along.holds.ends_well Differ (sym along.holds.same_end ∙ f))))
      by-how odds before last along NoMajority may none = absurd (end-as job odds (journal_of before) last along.holds free count NoMajority may)
      by-how odds before last along (Sink bytes) may none = absurd (none bytes refl)

      by : Stage job (λ before os. Unit {0}) moments (core_of job moments) → IsComplete how
      by (goes_on odds q along) = absurd (let f : None ≡ Some how = sym along.holds.not_ended ∙ e in cc)
      by (has_ended before other odds last q same along may last_is) =
          let is : other ≡ how = some-injective (sym (ap (λ (c : Core). c.ended) last_is ∙ after-end-ended job last other) ∙ e) in
          subst IsComplete is (by-how odds before last along other may (λ bytes f. sinks bytes (sym is ∙ f)))

module _ (job : Job) (free : RaceFree job.program) (moments : List Moment) (possible : Possible job moments) (apart : CorruptionsApart job moments) where
  -- a limit stands only where an execution is longer
  pub limit-still : (steps next : ℕ) → (core_of job moments).ended ≡ Some (Limit steps next) → PassedLimit job (journal_of moments) steps next
  limit-still steps next e = by (reach job free (λ before os. Unit {0}) moments (apart-policy job moments apart) [] [] moments [] tt (opening_core job) (sym (append-nil moments)) (opening-along job [] (omega arith)) possible)
    where
      same-passed : (before : List Moment) → plan_of (journal_of moments) ≡ plan_of (journal_of before) → PassedLimit job (journal_of before) steps next → PassedLimit job (journal_of moments) steps next
      same-passed before e p = record {
        threads = p.threads;
        runs = subst (λ (plan : List ℕ). IsExecution job.program (plan ++ p.threads)) (sym e) p.runs;
        steps_are = p.steps_are ∙ ap length (sym e);
        next_is = p.next_is;
        above = p.above;
      }

      by : Stage job (λ before os. Unit {0}) moments (core_of job moments) → PassedLimit job (journal_of moments) steps next
      by (goes_on odds q along) = absurd (let f : None ≡ Some (Limit steps next) = sym along.holds.not_ended ∙ e in cc)
      by (has_ended before other odds last q same along may last_is) =
          let is : other ≡ Limit steps next = some-injective (sym (ap (λ (c : Core). c.ended) last_is ∙ after-end-ended job last other) ∙ e) in
          let plan : plan_of (journal_of moments) ≡ plan_of (journal_of before) =
          ap (λ (m : List Moment). plan_of (journal_of m)) same ∙ (ap plan_of (journal-append before (Comes (End other) ∷ [])) ∙ plan-same (journal_of before) (End other) refl) in
          same-passed before plan (passed job free odds (journal_of before) last along.holds steps next (subst (MayEnd job last) is may))
