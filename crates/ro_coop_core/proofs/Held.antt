-- The fields of a run behind one entry more.
use Rattle.std.proofs.Common.{◌≡◌, ℕ, suc, ◌+◌, ◌≤◌, true, List, [], ◌∷◌, ◌++◌, length, length-append, Some, None, sym, ap, ◌∙◌, subst, arith}
use Rattle.std.specs.Prelude.{not, slice_index_or}
use Rattle.ro_journal.specs.declared.How.{How}
use Rattle.ro_journal.specs.declared.How.TheVariants.{Limit, Differ}
use Rattle.ro_journal.specs.declared.Entry.{Entry}
use Rattle.ro_journal.specs.declared.Entry.TheVariants.{End}
use Rattle.ro_journal.specs.Plan.{outcome_of}
use Rattle.ro_event.specs.Views.{View}
use Rattle.ro_event.specs.Functions.{functions}
use Rattle.ro_plain.specs.Machine.{setup_of}
use Rattle.ro_orders.specs.Choices.{has_otherwise}
use Rattle.ro_legal.specs.Core.{Job, Core, is_going}
use Rattle.ro_legal.specs.Cooperative.{after, IsAllowed, Legal, replay, most_done}
use Rattle.ro_legal.specs.declared.actions.Waits.{Waits}
use Rattle.ro_legal.specs.Waits.{NotesWaits}
use Rattle.ro_coop_core.specs.Seen.{KeepsViews}
use Rattle.ro_coop_core.specs.Seats.{AreSeated}
use Rattle.ro_coop_core.specs.Fields.{one_end, Fields, core_in, blocked_at, CountsBytes, IsCalm, Holds}
use Rattle.ro_legal.proofs.Journals.{outcome_of-append}
use Rattle.ro_legal.proofs.Ordered.{going-parts}
use Rattle.ro_legal.proofs.TogetherJournals.{replay_more, legal_more}
use Rattle.ro_legal.proofs.TogetherOutcomes.{ended-outcome}

-- no end is due where the core goes on
pub record Goes (f : Fields) : Type 0 where
  pub not_due : f.due ≡ None
  pub not_ended : f.ended ≡ None

pub goes : (f : Fields) → Holds f → is_going (core_in f) ≡ true → Goes f
goes f h e = let p = going-parts (core_in f) e in record { not_due = h.due_is ∙ p.0; not_ended = h.ended_is ∙ p.1 }

-- ---- the views that are kept

pub no-views : (job : Job) (journal : List Entry) (views : List View) → outcome_of journal ≡ None → KeepsViews job journal views
no-views job journal views none = λ e. absurd (let f : None ≡ Some Differ = sym none ∙ e in cc)

-- a journal that did not end with views that differ
pub not-differ : (job : Job) (journal : List Entry) (views : List View) (how : How) → outcome_of journal ≡ Some how → (how ≡ Differ → ⊥) → KeepsViews job journal views
not-differ job journal views how is a = λ e. absurd (a (let f : Some how ≡ Some Differ = sym is ∙ e in cc))

-- ---- one entry more

-- what the fields are behind an entry
pub record Becomes (f f' : Fields) (entry : Entry) : Type 0 where
  pub job : f'.job ≡ f.job
  pub journal : f'.journal ≡ f.journal ++ entry ∷ []
  pub leases : f'.leases ≡ (after f.job (core_in f) entry).leases
  pub setup : f'.kernel.setup ≡ f.kernel.setup
  pub kernel : f'.kernel.kernel ≡ (after f.job (core_in f) entry).kernel
  pub cooperates : f'.cooperates ≡ f.cooperates
  pub blocked_count : length f'.blocked ≡ 16
  pub blocked : (thread : ℕ) → blocked_at f'.blocked thread ≡ (after f.job (core_in f) entry).blocked thread
  pub most_count : length f'.most_done ≡ 16
  pub most : (thread : ℕ) → slice_index_or f'.most_done thread 0 ≡ most_done (after f.job (core_in f) entry).replicas thread
  pub steps : f'.steps ≡ (after f.job (core_in f) entry).steps
  pub waits : NotesWaits f'.waits (after f.job (core_in f) entry).waited (length f'.journal)
  pub counts : CountsBytes f'.sent f'.wrote f'.steps (after f.job (core_in f) entry)
  pub due : f'.due ≡ (after f.job (core_in f) entry).due
  pub ended : f'.ended ≡ (after f.job (core_in f) entry).ended
  pub seats : AreSeated f.job (after f.job (core_in f) entry) f'.seats
  pub views_count : f'.ended ≡ None → length f'.views ≡ length f'.seats
  pub views_kept : KeepsViews f.job (f.journal ++ entry ∷ []) f'.views
  pub room : length f'.leases + one_end f'.ended ≤ f'.places

module _ (f f' : Fields) (entry : Entry) (h : Holds f) (allowed : IsAllowed f.job (core_in f) entry) (b : Becomes f f' entry) where
  pub core-behind : core_in f' ≡ after f.job (core_in f) entry
  core-behind = ap (λ (j : Job). replay j f'.journal) b.job ∙ ap (replay f.job) b.journal ∙ replay_more f.job f.journal entry

  pub holds-step : Holds f'
  holds-step = record {
    calm = subst IsCalm (sym b.job) h.calm;
    legal = subst (λ (j : Job). Legal j f'.journal) (sym b.job) (subst (Legal f.job) (sym b.journal) (legal_more f.job f.journal entry h.legal allowed));
    leases_are = b.leases ∙ sym (ap (λ (c : Core). c.leases) core-behind);
    setup_is = b.setup ∙ h.setup_is ∙ ap (λ (j : Job). setup_of j.program) (sym b.job);
    kernel_is = b.kernel ∙ sym (ap (λ (c : Core). c.kernel) core-behind);
    cooperates_is = b.cooperates ∙ h.cooperates_is ∙ ap (λ (j : Job). not (has_otherwise j.program.image.calls.addresses functions)) (sym b.job);
    blocked_count = b.blocked_count;
    blocked_are = λ t. b.blocked t ∙ sym (ap (λ (c : Core). c.blocked t) core-behind);
    most_count = b.most_count;
    most_are = λ t. b.most t ∙ sym (ap (λ (c : Core). most_done c.replicas t) core-behind);
    steps_are = b.steps ∙ sym (ap (λ (c : Core). c.steps) core-behind);
    waits_are = subst (λ (c : Core). NotesWaits f'.waits c.waited (length f'.journal)) (sym core-behind) b.waits;
    counts = subst (CountsBytes f'.sent f'.wrote f'.steps) (sym core-behind) b.counts;
    due_is = b.due ∙ sym (ap (λ (c : Core). c.due) core-behind);
    ended_is = b.ended ∙ sym (ap (λ (c : Core). c.ended) core-behind);
    seats_are = subst (λ (j : Job). AreSeated j (core_in f') f'.seats) (sym b.job) (subst (λ (c : Core). AreSeated f.job c f'.seats) (sym core-behind) b.seats);
    views_count = b.views_count;
    views_kept = subst (λ (j : Job). KeepsViews j f'.journal f'.views) (sym b.job) (subst (λ (js : List Entry). KeepsViews f.job js f'.views) (sym b.journal) b.views_kept);
    room = b.room;
  }

-- a core in which all have waited as long, behind no fewer entries
pub kept-waits : (f f' : Fields) → Holds f → (core : Core) → core.waited ≡ (core_in f).waited → f'.waits ≡ f.waits → length f'.journal ≡ length f.journal → NotesWaits f'.waits core.waited (length f'.journal)
kept-waits f f' h core waited waits same =
    subst (λ (w : Waits). NotesWaits w core.waited (length f'.journal)) (sym waits)
    (subst (λ (n : ℕ → ℕ). NotesWaits f.waits n (length f'.journal)) (sym waited) (record { are = h.waits_are.are; few = let few = h.waits_are.few in omega arith }))

pub same-waits : (f f' : Fields) → Holds f → (core : Core) → core.waited ≡ (core_in f).waited → f'.waits ≡ f.waits → length f'.journal ≡ suc (length f.journal) → NotesWaits f'.waits core.waited (length f'.journal)
same-waits f f' h core waited waits more =
    subst (λ (w : Waits). NotesWaits w core.waited (length f'.journal)) (sym waits)
    (subst (λ (n : ℕ → ℕ). NotesWaits f.waits n (length f'.journal)) (sym waited) (record { are = h.waits_are.are; few = let few = h.waits_are.few in omega arith }))

pub length-more : {X : Type 0} (xs : List X) (x : X) → length (xs ++ x ∷ []) ≡ suc (length xs)
length-more xs x = length-append xs (x ∷ []) ∙ (let e : length xs + 1 ≡ suc (length xs) = omega arith in e)

-- no byte is written
pub same-counts : (f f' : Fields) → Holds f → (core : Core) → core.output ≡ (core_in f).output → core.wrote ≡ 0 → f'.sent ≡ f.sent → f'.wrote ≡ 0 → f.steps ≤ f'.steps → CountsBytes f'.sent f'.wrote f'.steps core
same-counts f f' h core output none sent wrote steps = record {
  sent_are = sent ∙ h.counts.sent_are ∙ ap length (sym output);
  wrote_is = wrote ∙ sym none;
  within = omega arith;
  few = let k = h.counts.few in omega arith;
}

-- the journal goes on where the core has not ended
pub no-outcome : (f : Fields) → Holds f → f.ended ≡ None → outcome_of f.journal ≡ None
no-outcome f h e = sym (ended-outcome f.job f.journal h.legal) ∙ sym h.ended_is ∙ e

-- the fields have the outcome of their journal
pub fields-outcome : (f : Fields) → Holds f → f.ended ≡ outcome_of f.journal
fields-outcome f h = h.ended_is ∙ ended-outcome f.job f.journal h.legal

-- an end at the limit is not by views
pub limit-keeps : (f : Fields) → Holds f → f.ended ≡ None → (steps next : ℕ) → KeepsViews f.job (f.journal ++ End (Limit steps next) ∷ []) f.views
limit-keeps f h still steps next =
    not-differ f.job (f.journal ++ End (Limit steps next) ∷ []) f.views (Limit steps next) (outcome_of-append f.journal (End (Limit steps next) ∷ []) (no-outcome f h still)) (λ (e : Limit steps next ≡ Differ). cc)
