-- A limit stands only where an execution is longer than it; so a program whose executions are short enough comes to its end.
use Rattle.std.specs.Prelude.{◌≤◌, ◌≡◌, ◌≢◌, ℕ, List, [], ◌∷◌, ◌++◌, length, replicate, Some, None}
use Rattle.std.proofs.Common.{refl, sym, ap, ◌∙◌, subst, arith, inl, inr, length-append}
use Rattle.std.proofs.Math.ListN.{length-replicate}
use Rattle.ro_journal.specs.declared.How.{How}
use Rattle.ro_journal.specs.declared.How.TheVariants.{Exit, Trap, Deadlock, Limit, Differ, NoMajority, Sink}
use Rattle.ro_journal.specs.declared.Entry.{Entry}
use Rattle.ro_journal.specs.declared.Entry.TheVariants.{End}
use Rattle.ro_journal.specs.Plan.{event_steps, plan_of, outcome_of}
use Rattle.ro_plain.specs.Machine.{IsExecution, AllEnd}
use Rattle.ro_plain.specs.Order.{RaceFree}
use Rattle.ro_plain.proofs.Calls.{some-injective}
use Rattle.ro_legal.proofs.Outcomes.{ended_is_outcome}
use Rattle.ro_legal.specs.Core.{Job, Core}
use Rattle.ro_legal.specs.Legal.{MayEnd, due, alone, for_vote, for_free, for_scrub, Legal, replay}
use Rattle.ro_legal.specs.Ideal.{StaysApart}
use Rattle.ro_legal.specs.Sound.{IsOver}
use Rattle.ro_simulation.specs.Invariant.{TracksIdeal}
use Rattle.ro_simulation.specs.Theorem.{TwoThreeOrFive, IsComplete, by_exit, by_trap, by_deadlock, PassedLimit, CannotDiffer, EndsComplete}
use Rattle.ro_simulation.proofs.Kept.{plan-same}
use Rattle.ro_simulation.proofs.Votes.{vote-parts, vote-runs}
use Rattle.ro_simulation.proofs.Frees.{free-parts, free-runs}
use Rattle.ro_simulation.proofs.Journals.{after-end-ended, Reached, Stage, goes_on, has_ended}
use Rattle.ro_simulation.proofs.Simulates.{simulates, stage, apart-policy}
use Rattle.ro_simulation.proofs.Laws.{never-differs}

-- no program ends by a difference
pub no-over-differ : IsOver Differ → ⊥
no-over-differ h = elim h [ ]

-- no program ends by a limit
no-over-limit : (steps next : ℕ) → IsOver (Limit steps next) → ⊥
no-over-limit steps next h = elim h [ ]

module _ (job : Job) (free : RaceFree job.program) (odds : List ℕ) (journal : List Entry) (core : Core) (h : TracksIdeal job odds journal core) where
  -- an end by a limit in a core that the invariant holds of
  pub passed : (steps next : ℕ) → MayEnd job core (Limit steps next) → PassedLimit job journal steps next
  passed steps next (due e) = absurd (no-over-limit steps next (h.ends_well (Limit steps next) (sym h.same_end ∙ e)))
  passed steps next (alone e) = absurd e
  passed steps next (for_vote t may e) = record {
    threads = replicate e.count t ++ replicate (event_steps e.event.did) t;
    runs = vote-runs job free odds journal core h t (vote-parts core t may) e.won e.lost e.verdict e.count e.count_is e.event e.comes;
    steps_are = e.steps_are ∙ h.steps_are;
    next_is = (let a = length-append (replicate e.count t) (replicate (event_steps e.event.did) t) in
        let b = length-replicate e.count t in let c = length-replicate (event_steps e.event.did) t in let d = e.next_is in omega arith);
    above = e.above;
  }
  passed steps next (for_free t may e) = record {
    threads = t ∷ [];
    runs = free-runs job free odds journal core h t (free-parts job core t may);
    steps_are = e.0 ∙ h.steps_are;
    next_is = e.1;
    above = e.2;
  }
  passed steps next (for_scrub may e) = absurd e

module _ (job : Job) (journal : List Entry) (free : RaceFree job.program) (legal : Legal job journal) (apart : StaysApart job journal) where
  -- the same for a journal with the same plan
  same-passed : (before : List Entry) (steps next : ℕ) → plan_of journal ≡ plan_of before → PassedLimit job before steps next → PassedLimit job journal steps next
  same-passed before steps next e p = record {
    threads = p.threads;
    runs = subst (λ (plan : List ℕ). IsExecution job.program (plan ++ p.threads)) (sym e) p.runs;
    steps_are = p.steps_are ∙ ap length (sym e);
    next_is = p.next_is;
    above = p.above;
  }

  -- the journal's last entry, where it ends so
  record EndsBy (how : How) : Type 0 where
    pub odds : List ℕ
    pub before : List Entry
    pub last : Core
    pub reached : Reached job odds before last
    pub may : MayEnd job last how
    pub same_plan : plan_of journal ≡ plan_of before

  -- the last entry of a journal that ends
  ends-by : (how : How) → outcome_of journal ≡ Some how → EndsBy how
  ends-by how e = by (stage job free (λ before odds. Unit {0}) journal (apart-policy job journal apart) [] (omega arith) tt legal)
    where
      ended : (replay job journal).ended ≡ Some how
      ended = ended_is_outcome job journal legal ∙ e

      by : Stage job (λ before odds. Unit {0}) journal (replay job journal) → EndsBy how
      by (goes_on odds q reached) = absurd (let f : None ≡ Some how = sym reached.holds.not_ended ∙ ended in cc)
      by (has_ended before other odds last q same reached may last_is) =
          let how_is : other ≡ how = some-injective (sym (ap (λ (c : Core). c.ended) last_is ∙ after-end-ended job last other) ∙ ended) in
          record { odds = odds; before = before; last = last; reached = reached; may = subst (MayEnd job last) how_is may; same_plan = ap plan_of same ∙ plan-same before (End other) refl }

  -- a limit stands only where an execution is longer
  pub limit-passed : (steps next : ℕ) → outcome_of journal ≡ Some (Limit steps next) → PassedLimit job journal steps next
  limit-passed steps next e =
      let h = ends-by (Limit steps next) e in
      same-passed h.before steps next h.same_plan (passed job free h.odds h.before h.last h.reached.holds steps next h.may)

  -- three replicas do not end by a difference
  more-cannot : (core : Core) → 3 ≤ job.settings.replicas → length core.replicas ≡ job.settings.replicas → MayEnd job core Differ → (core.due ≡ Some Differ → ⊥) → ⊥
  more-cannot core three count (due e) over = over e
  more-cannot core three count (alone e) over = e
  more-cannot core three count (for_vote t may e) over = let two = e.1 in omega arith
  more-cannot core three count (for_free t may e) over = e
  more-cannot core three count (for_scrub may e) over = let two = e.1 in omega arith

  -- so neither three nor five end by a difference
  no-differ-of : 3 ≤ job.settings.replicas → outcome_of journal ≡ Some Differ → ⊥
  no-differ-of three e =
      let h = ends-by Differ e in
      more-cannot h.last three h.reached.holds.replica_count h.may (λ f. no-over-differ (h.reached.holds.ends_well Differ (sym h.reached.holds.same_end ∙ f)))

  -- the journal does not end by a difference
  no-differ : CannotDiffer job → outcome_of journal ≡ Some Differ → ⊥
  no-differ (inl three) e = no-differ-of (omega arith) e
  no-differ (inr (inl five)) e = no-differ-of (omega arith) e
  no-differ (inr (inr none)) e = (never-differs job journal free none legal).no_end e

  -- ---- a program whose executions are short enough

  module _ (ends : AllEnd job.program job.settings.limit) (cannot : CannotDiffer job) where
    -- no limit is passed by executions that are short enough
    not-passed : (steps next : ℕ) → PassedLimit job journal steps next → ⊥
    not-passed steps next p =
        let short = ends (plan_of journal ++ p.threads) p.runs in
        let long = length-append (plan_of journal) p.threads in
        let a = p.steps_are in let b = p.next_is in let c = p.above in omega arith

    -- what ends are left
    by-how : (how : How) → outcome_of journal ≡ Some how → ((bytes : ℕ) → how ≢ Sink bytes) → (outcome_of journal ≡ Some Differ → ⊥) → (outcome_of journal ≡ Some NoMajority → ⊥) → IsComplete how
    by-how (Exit status) e sinks differs splits = by_exit
    by-how (Trap code) e sinks differs splits = by_trap
    by-how Deadlock e sinks differs splits = by_deadlock
    by-how (Limit steps next) e sinks differs splits = absurd (not-passed steps next (limit-passed steps next e))
    by-how Differ e sinks differs splits = absurd (differs e)
    by-how NoMajority e sinks differs splits = absurd (splits e)
    by-how (Sink bytes) e sinks differs splits = absurd (sinks bytes refl)

    -- completeness
    pub ends-complete : TwoThreeOrFive job → EndsComplete journal
    ends-complete count how e sinks =
        by-how how e sinks (no-differ cannot) (λ f. (simulates job journal free count legal apart).ends_as NoMajority f)
