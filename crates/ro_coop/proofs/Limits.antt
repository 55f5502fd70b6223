-- An end by the limit of steps: the first steps of its journal, with those of what would have come next, are an execution.
use Rattle.std.specs.Prelude.{◌≡◌, ◌<◌, ◌+◌, ℕ, List, [], ◌∷◌, ◌++◌, length, map, replicate, Some, None}
use Rattle.std.proofs.Common.{refl, sym, ap, ◌∙◌, subst}
use Rattle.std.proofs.lemmas.List.{length-replicate}
use Rattle.ro_journal.specs.declared.How.TheVariants.{Limit, Sink}
use Rattle.ro_journal.specs.declared.losers.Lost.TheVariants.{Nobody}
use Rattle.ro_journal.specs.declared.Entry.{Entry}
use Rattle.ro_journal.specs.declared.Entry.TheVariants.{Vote, Free}
use Rattle.ro_journal.specs.Plan.{event_steps}
use Rattle.ro_settings.specs.Ranges.{InRange}
use Rattle.ro_plain.specs.Machine.{opening, run, IsExecution}
use Rattle.ro_plain.specs.Order.{RaceFree}
use Rattle.ro_orders.specs.Copies.{Rows}
use Rattle.ro_orders.proofs.Tables.{chosen-by-locks}
use Rattle.ro_peer.specs.Gets.{InRows}
use Rattle.ro_legal.specs.Core.{Job as Asked, Core as Run}
use Rattle.ro_legal.specs.Sound.{IsOver}
use Rattle.ro_legal.specs.Cooperative as rules
use Rattle.ro_legal.proofs.Ordered.{vote-parts, free-parts, going-parts}
use Rattle.ro_legal.proofs.Together.{keeps-replicas}
use Rattle.ro_coop.specs.Core.{Job, Core, opening_core, after, IsAllowed, LegalFrom, Steps, steps_after, steps_from, first_of}
use Rattle.ro_coop.specs.Sound.{core_behind}
use Rattle.ro_coop.proofs.Journal.{legal-sound}
use Rattle.ro_coop.proofs.Rules.{opening-many, many-kept, its-legal, its-behind, steps-same, nothing, some-replica, is-watched, vote-open, free-open}
use Rattle.ro_coop.proofs.Seen.{as-job, seen, as-put}
use Rattle.ro_coop.proofs.Steps.{steps-are-first}

-- ---- one entry more

legal-more : (job : Job) (rows : Rows) (core : Core) (journal : List Entry) (entry : Entry) → LegalFrom job rows core journal → IsAllowed job rows (core_behind job rows core journal) entry → LegalFrom job rows core (journal ++ entry ∷ [])
legal-more job rows core [] entry legal allowed = (allowed, tt)
legal-more job rows core (one ∷ journal) entry legal allowed = (legal.0, legal-more job rows (after job rows core one) journal entry legal.1 allowed)

steps-more : (s : Steps) (journal : List Entry) (entry : Entry) → steps_from s (journal ++ entry ∷ []) ≡ steps_after (steps_from s journal) entry
steps-more s [] entry = refl
steps-more s (one ∷ journal) entry = steps-more (steps_after s one) journal entry

-- what the program's own ends are not
never-limit : (steps next : ℕ) → IsOver (Limit steps next) → ⊥
never-limit steps next h = elim h [ ]

module _ (job : Asked) (rows : Rows) (free : RaceFree job.program) (range : InRange job.settings) (unstruck : job.faults ≡ []) (before : List Entry) (legal : rules.Legal job before) (in_rows : InRows rows (rules.gets_from job (rules.opening_core job) before)) where
  abbrev last : Run
  last = rules.replay job before

  many : length last.sides ≡ length last.replicas
  many = many-kept job (rules.opening_core job) (opening-many job) before

  abbrev behind : Core
  behind = core_behind (as-job job) rows (opening_core (as-job job)) (map as-put before)

  -- where it goes on, the theory's core is the run's
  seen-there : last.ended ≡ None → behind ≡ seen last
  seen-there going =
      let is = its-behind job rows free range unstruck before legal in_rows in
      is.same ∙ ap (λ (output : List ℕ). record (seen last) { output = output }) (sym (is.whole (λ bytes e. let bad : None ≡ Some (Sink bytes) = sym going ∙ e in absurd (cc))))

  -- what the theory allows next is a part of an execution, whatever the limit is
  runs-on : (entry : Entry) → last.ended ≡ None → IsAllowed (as-job job) rows (seen last) entry → IsExecution job.program (steps_after (steps_from nothing before) entry).first
  runs-on entry going allowed =
      let longer = legal-more (as-job job) rows (opening_core (as-job job)) (map as-put before) entry (its-legal job rows free range unstruck before legal in_rows)
      (subst (λ (c : Core). IsAllowed (as-job job) rows c entry) (sym (seen-there going)) allowed) in
      let count = some-replica job.settings range in
      let sound = legal-sound (as-job job) rows free (chosen-by-locks job.program) (is-watched job range) count.0 count.1 (map as-put before ++ entry ∷ []) longer in (
        sound.machine,
        ap (λ (s : Steps). run job.program (opening job.program) s.first) (sym (steps-more nothing (map as-put before) entry ∙ ap (λ (s : Steps). steps_after s entry) (steps-same nothing before))) ∙ sound.reached,
      )

  -- by the threads that would have come next
  pub record Longer (steps next : ℕ) : Type 0 where
    pub threads : List ℕ
    pub runs : IsExecution job.program (first_of before ++ threads)
    pub steps_are : steps ≡ length (first_of before)
    pub next_is : next ≡ length threads
    pub above : job.settings.limit < steps + next

  first-steps : last.steps ≡ length (first_of before)
  first-steps = steps-are-first job unstruck before legal

  pub passed : (steps next : ℕ) → rules.MayEnd job last (Limit steps next) → Longer steps next
  passed steps next (rules.due e) = absurd (never-limit steps next ((keeps-replicas job before unstruck legal).due_over (Limit steps next) e))
  passed steps next (rules.alone e) = absurd e
  passed steps next (rules.for_vote thread may e) =
      let going = going-parts last (vote-parts last thread may).going in
      record {
        threads = replicate (event_steps e.event.did) thread;
        runs = runs-on (Vote thread 0 0 Nobody e.event.did) going.1 (vote-open job last many thread may e.view e.agreed e.event e.comes e.event.did refl);
        steps_are = e.steps_are ∙ first-steps;
        next_is = e.next_is ∙ sym (length-replicate (event_steps e.event.did) thread);
        above = e.above;
      }
  passed steps next (rules.for_free thread may e) =
      let going = going-parts last (free-parts job last thread may).going in
      record {
        threads = replicate 1 thread;
        runs = runs-on (Free thread) going.1 (free-open job last many thread may);
        steps_are = e.0 ∙ first-steps;
        next_is = e.1;
        above = e.2;
      }
