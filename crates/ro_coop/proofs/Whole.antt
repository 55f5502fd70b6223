-- What a whole run comes to: how its journal ends, the machine of its first steps has ended; and where it ends by a deadlock, no thread has a step.
use Rattle.std.specs.Prelude.{◌≡◌, ℕ, true, List, [], ◌∷◌, ◌++◌, length, Some, None}
use Rattle.std.proofs.Common.{refl, sym, ap, ◌∙◌, subst, arith, length-append}
use Rattle.ro_journal.specs.declared.How.{How}
use Rattle.ro_journal.specs.declared.How.TheVariants.{Exit, Trap, Deadlock, Limit, Differ, NoMajority, Sink}
use Rattle.ro_journal.specs.declared.Entry.{Entry}
use Rattle.ro_journal.specs.declared.Entry.TheVariants.{End}
use Rattle.ro_journal.specs.Plan.{outcome_of}
use Rattle.ro_settings.specs.Ranges.{InRange}
use Rattle.ro_plain.specs.Machine.{Machine, opening, step, run, IsExecution, AllEnd}
use Rattle.ro_plain.specs.Order.{RaceFree}
use Rattle.ro_plain.proofs.Calls.{some-injective}
use Rattle.ro_orders.specs.Copies.{Rows}
use Rattle.ro_peer.specs.Gets.{InRows}
use Rattle.ro_event.specs.Views.{View}
use Rattle.ro_legal.specs.Core.{Job as Asked, Core as Run, may_vote}
use Rattle.ro_legal.specs.Legal.{is_stuck}
use Rattle.ro_legal.specs.Kept.{KeepsReplicas}
use Rattle.ro_legal.specs.Sound.{IsOver}
use Rattle.ro_legal.specs.Cooperative as rules
use Rattle.ro_legal.proofs.Together.{keeps-replicas}
use Rattle.ro_legal.proofs.TogetherJournals.{LegalFrom-parts}
use Rattle.ro_legal.proofs.TogetherOutcomes.{ended-outcome}
use Rattle.ro_coop.specs.Core.{first_of}
use Rattle.ro_simulation.specs.Theorem.{EndsComplete, by_exit, by_trap, by_deadlock}
use Rattle.ro_coop.specs.Runs.{IsExecutionOf, PassedLimit, RunsAsFirst}
use Rattle.ro_coop.proofs.Rowless.{in-front, in-both}
use Rattle.ro_coop.proofs.Rules.{over-none, is-execution, views-agree}
use Rattle.ro_coop.proofs.Steps.{first-end}
use Rattle.ro_coop.proofs.Deadlocks.{real-deadlock}
use Rattle.ro_coop.proofs.Limits.{passed}

-- ---- a journal that ends is one that goes on, and its end

ended-is : (job : Asked) (core : Run) (how : How) → (rules.after job core (End how)).ended ≡ Some how
unfolding rules.after
ended-is job core how = refl

last-end : (job : Asked) (core : Run) (journal : List Entry) (how : How) → rules.LegalFrom job core journal → outcome_of journal ≡ Some how → (before : List Entry) × (journal ≡ before ++ End how ∷ [])
last-end job core [] how legal e = absurd (let f : None ≡ Some how = e in cc)
last-end job core (End other ∷ journal) how legal e = ([], ap (λ (later : List Entry). End other ∷ later) (nothing-behind journal legal.1) ∙ ap (λ (h : How). End h ∷ []) (some-injective e))
  where
    nothing-behind : (later : List Entry) → rules.LegalFrom job (rules.after job core (End other)) later → later ≡ []
    nothing-behind [] l = refl
    nothing-behind (next ∷ later) l = absurd (over-none job (rules.after job core (End other)) other (ended-is job core other) next l.0)
last-end job core (entry ∷ journal) how legal e =
    let rest = last-end job (rules.after job core entry) journal how legal.1 e in
    (entry ∷ rest.0, ap (λ (later : List Entry). entry ∷ later) rest.1)

gets-before : (job : Asked) (rows : Rows) (core : Run) (before behind : List Entry) → InRows rows (rules.gets_from job core (before ++ behind)) → InRows rows (rules.gets_from job core before)
gets-before job rows core [] behind h = tt
gets-before job rows core (entry ∷ before) behind h =
    let parts = in-front rows (rules.gets_of job core entry) _ h in
    in-both rows (rules.gets_of job core entry) _ parts.0 (gets-before job rows (rules.after job core entry) before behind parts.1)

record EndsBy (job : Asked) (rows : Rows) (journal : List Entry) (how : How) : Type 0 where
  before : List Entry
  is : journal ≡ before ++ End how ∷ []
  legal : rules.Legal job before
  in_rows : InRows rows (rules.gets_from job (rules.opening_core job) before)
  may : rules.MayEnd job (rules.replay job before) how

ends-by : (job : Asked) (rows : Rows) (journal : List Entry) (how : How) → rules.Legal job journal → InRows rows (rules.gets_from job (rules.opening_core job) journal) → outcome_of journal ≡ Some how → EndsBy job rows journal how
ends-by job rows journal how legal in_rows e =
    let last = last-end job (rules.opening_core job) journal how legal e in
    let parts = LegalFrom-parts job (rules.opening_core job) last.0 (End how ∷ []) (subst (rules.Legal job) last.1 legal) in
    record {
      before = last.0;
      is = last.1;
      legal = parts.0;
      in_rows = gets-before job rows (rules.opening_core job) last.0 (End how ∷ []) (subst (λ (js : List Entry). InRows rows (rules.gets_from job (rules.opening_core job) js)) last.1 in_rows);
      may = parts.1.0.1;
    }

-- ---- by which ends it may

stuck-then : (job : Asked) (core : Run) → KeepsReplicas job core → rules.MayEnd job core Deadlock → is_stuck job core ≡ true
stuck-then job core k (rules.due e) = absurd (never (k.due_over Deadlock e))
  where
    never : IsOver Deadlock → ⊥
    never h = elim h [ ]
stuck-then job core k (rules.alone h) = h
stuck-then job core k (rules.for_vote thread m h) = absurd h
stuck-then job core k (rules.for_free thread m h) = absurd h

-- a difference stands in the place of a vote of which no view is all replicas'
not-differs : (job : Asked) (core : Run) → KeepsReplicas job core → rules.MayEnd job core Differ → ((thread : ℕ) → may_vote core thread ≡ true → (view : View) × rules.AgreeOn job core thread view) → ⊥
not-differs job core k (rules.due e) agree = never (k.due_over Differ e)
  where
    never : IsOver Differ → ⊥
    never h = elim h [ ]
not-differs job core k (rules.alone h) agree = h
not-differs job core k (rules.for_vote thread m h) agree = let a = agree thread m in h a.0 a.1
not-differs job core k (rules.for_free thread m h) agree = h

-- a cooperative run has no majorities
never-splits : (job : Asked) (core : Run) → KeepsReplicas job core → rules.MayEnd job core NoMajority → ⊥
never-splits job core k (rules.due e) = never (k.due_over NoMajority e)
  where
    never : IsOver NoMajority → ⊥
    never h = elim h [ ]
never-splits job core k (rules.alone h) = h
never-splits job core k (rules.for_vote thread m h) = h
never-splits job core k (rules.for_free thread m h) = h

-- ---- a whole run

module _ (job : Asked) (rows : Rows) (free : RaceFree job.program) (range : InRange job.settings) (unstruck : job.faults ≡ []) (journal : List Entry) (legal : rules.Legal job journal) (in_rows : InRows rows (rules.gets_from job (rules.opening_core job) journal)) where
  execution : IsExecutionOf job rows (first_of journal) (rules.replay job journal)
  execution = is-execution job rows free range unstruck journal legal in_rows

  ends : (how : How) → outcome_of journal ≡ Some how → EndsBy job rows journal how
  ends how e = ends-by job rows journal how legal in_rows e

  ended-so : (how : How) → outcome_of journal ≡ Some how → (rules.replay job journal).ended ≡ Some how
  ended-so how e = ended-outcome job journal legal ∙ e

  stuck-there : outcome_of journal ≡ Some Deadlock → (execution.machine.ended ≡ None) × ((t : ℕ) (later : Machine) → step job.program execution.machine t ≡ Some later → ⊥)
  stuck-there e =
      let f = ends Deadlock e in
      let stuck = stuck-then job (rules.replay job f.before) (keeps-replicas job f.before unstruck f.legal) f.may in
      let first : first_of journal ≡ first_of f.before = ap first_of f.is ∙ first-end f.before Deadlock in
      real-deadlock job rows free range unstruck f.before f.legal f.in_rows stuck execution.machine (ap (run job.program (opening job.program)) (sym first) ∙ execution.reached)

  differs : outcome_of journal ≡ Some Differ → ⊥
  differs e =
      let f = ends Differ e in
      not-differs job (rules.replay job f.before) (keeps-replicas job f.before unstruck f.legal) f.may
      (λ thread may. views-agree job rows free range unstruck f.before f.legal f.in_rows thread may)

  limited : (steps next : ℕ) → outcome_of journal ≡ Some (Limit steps next) → PassedLimit job journal steps next
  limited steps next e =
      let f = ends (Limit steps next) e in
      let first : first_of journal ≡ first_of f.before = ap first_of f.is ∙ first-end f.before (Limit steps next) in
      let longer = passed job rows free range unstruck f.before f.legal f.in_rows steps next f.may in
      record {
        threads = longer.threads;
        runs = subst (λ (steps : List ℕ). IsExecution job.program (steps ++ longer.threads)) (sym first) longer.runs;
        steps_are = longer.steps_are ∙ ap (λ (steps : List ℕ). length steps) (sym first);
        next_is = longer.next_is;
        above = longer.above;
      }

  -- which ends are left
  completes : AllEnd job.program job.settings.limit → EndsComplete journal
  completes short (Exit status) e sinks = by_exit
  completes short (Trap cause) e sinks = by_trap
  completes short Deadlock e sinks = by_deadlock
  completes short (Limit steps next) e sinks =
      let p = limited steps next e in
      let most = short (first_of journal ++ p.threads) p.runs in
      let long = length-append (first_of journal) p.threads in
      let a = p.steps_are in let b = p.next_is in let c = p.above in absurd (omega arith)
  completes short Differ e sinks = absurd (differs e)
  completes short NoMajority e sinks = let f = ends NoMajority e in absurd (never-splits job (rules.replay job f.before) (keeps-replicas job f.before unstruck f.legal) f.may)
  completes short (Sink bytes) e sinks = absurd (sinks bytes refl)

  pub runs-as-first : RunsAsFirst job rows journal
  runs-as-first = record {
    execution = execution;
    ends = λ how outcome e. execution.ends how outcome (ended-so how e);
    deadlock = stuck-there;
    no_difference = differs;
    limit = limited;
    complete = completes;
  }
