-- The fields of a run behind one entry more.
use Rattle.std.proofs.Common.{◌≡◌, ◌⊎◌, inl, inr, ℕ, suc, ◌+◌, ◌*◌, ◌≤◌, true, List, [], ◌∷◌, ◌++◌, length, length-append, Option, Some, None, sym, ap, ◌∙◌, subst, arith}
use Rattle.std.specs.Prelude.{IsSome, slice_get, slice_set}
use Rattle.std.specs.List.{All}
use Rattle.ro_replica.specs.Lent.{IsSpareLane}
use Rattle.ro_legal.specs.Parts.{Sharing}
use Rattle.ro_core.specs.declared.wishing.Wish.{Wish}
use Rattle.ro_core.specs.Wishing.{few_misses, wish_place}
use Rattle.ro_journal.specs.declared.How.{How}
use Rattle.ro_journal.specs.declared.How.TheVariants.{Limit, Differ, NoMajority}
use Rattle.ro_journal.specs.declared.Entry.{Entry}
use Rattle.ro_journal.specs.declared.Entry.TheVariants.{End}
use Rattle.ro_journal.specs.Plan.{outcome_of}
use Rattle.ro_event.specs.Views.{View}
use Rattle.ro_settings.specs.Ranges.{InRange}
use Rattle.ro_kernel.specs.declared.Life.{Life}
use Rattle.ro_kernel.specs.Kernel.{Kernel, live_option, lives_on}
use Rattle.ro_kernel.specs.Mapped.{IsMapped}
use Rattle.ro_kernel.specs.State.{State}
use Rattle.ro_plain.specs.Machine.{setup_of}
use Rattle.ro_legal.specs.Core.{Job, Core, is_going}
use Rattle.ro_legal.specs.Legal.{after, IsAllowed, Legal, replay}
use Rattle.ro_core.specs.Seen.{CoreOf, KeepsViews}
use Rattle.ro_event.specs.declared.calls.Call.{Call}
use Rattle.ro_group.specs.Groups.{Groups}
use Rattle.ro_core.specs.Fields.{AreNoted, AreSeated, lent_at, one_end, Fields, core_in, blocked_at, first_unblocked, IsCalm, CountsBytes, Holds}
use Rattle.ro_plain.proofs.Places.{get-set-cases}
use Rattle.ro_legal.specs.declared.actions.Waits.{Waits}
use Rattle.ro_legal.specs.Waits.{NotesWaits, Notes}
use Rattle.ro_core.specs.Grouped.{AreGrouped}
use Rattle.ro_legal.proofs.Mapped.{stays-mapped}
use Rattle.ro_legal.proofs.Journals.{outcome_of-append, replay_more, legal_more}
use Rattle.ro_legal.proofs.Ordered.{going-parts}
use Rattle.ro_legal.proofs.Outcomes.{ended_is_outcome}

-- of an outcome that an entry gives or the journal had
pub outcome_cases : (journal : List Entry) (entry : Entry) (how : How) → outcome_of (journal ++ entry ∷ []) ≡ Some how → (outcome_of journal ≡ Some how) ⊎ (outcome_of (entry ∷ []) ≡ Some how)
outcome_cases [] entry how e = inr e
outcome_cases (End other ∷ journal) entry how e = inl e
outcome_cases (x ∷ journal) entry how e = outcome_cases journal entry how e

-- no end is due where the core goes on
pub record Goes (f : Fields) : Type 0 where
  pub not_due : f.due ≡ None
  pub not_ended : f.ended ≡ None

pub goes : (f : Fields) → Holds f → is_going (core_in f) ≡ true → Goes f
goes f h e = let p = going-parts (core_in f) e in record { not_due = h.due_is ∙ p.0; not_ended = h.ended_is ∙ p.1 }

-- ---- the views that are kept

pub no-views : (job : Job) (journal : List Entry) (views : List View) → outcome_of journal ≡ None → KeepsViews job journal views
no-views job journal views none = λ e. absurd (by e)
  where
    by : (outcome_of journal ≡ Some Differ) ⊎ (outcome_of journal ≡ Some NoMajority) → ⊥
    by (inl e) = let f : None ≡ Some Differ = sym none ∙ e in cc
    by (inr e) = let f : None ≡ Some NoMajority = sym none ∙ e in cc

-- a journal that did not end with a split
pub not-split : (job : Job) (journal : List Entry) (views : List View) (how : How) → outcome_of journal ≡ Some how → (how ≡ Differ → ⊥) → (how ≡ NoMajority → ⊥) → KeepsViews job journal views
not-split job journal views how is a b = λ e. absurd (by e)
  where
    by : (outcome_of journal ≡ Some Differ) ⊎ (outcome_of journal ≡ Some NoMajority) → ⊥
    by (inl e) = a (let f : Some how ≡ Some Differ = sym is ∙ e in cc)
    by (inr e) = b (let f : Some how ≡ Some NoMajority = sym is ∙ e in cc)

-- ---- one entry more

-- what is lent and wished, and the lanes that are kept for it, are the same
pub record SameLending (f f' : Fields) : Type 0 where
  pub lent : f'.lent ≡ f.lent
  pub wishes : f'.wishes ≡ f.wishes
  pub lanes : f'.lanes ≡ f.lanes

-- it is noted of a core that lends the same, where no thread missed more or fewer pages
pub same-noted : (f f' : Fields) → Holds f → SameLending f f' → (core : Core) → core.sharing ≡ (core_in f).sharing → core.lent ≡ (core_in f).lent → core.wishes ≡ (core_in f).wishes → core.misses ≡ (core_in f).misses → length core.replicas ≡ length (core_in f).replicas
    → AreNoted core f.job.settings.drivers f'.lent f'.wishes
same-noted f f' h same core sharing lent wishes misses count = (
  λ driver less. ap (λ (xs : _). lent_at xs driver) same.lent ∙ h.noted.0 driver less ∙ ap (λ (g : _). g driver) (sym lent),
  λ lends.
      let noted = h.noted.1 (subst (λ (o : Option Sharing). IsSome o) sharing lends) in (
        record {
          count = ap length same.wishes ∙ noted.0.count ∙ ap (λ (n : ℕ). 16 * n) (sym count);
          each = λ replica thread wish less there.
              let is = noted.0.each replica thread wish less (ap (λ (ws : List Wish). slice_get ws (wish_place replica thread)) (sym same.wishes) ∙ there) in
              record {
                pages = is.pages ∙ ap (λ (g : _). g replica thread) (sym wishes);
                misses = is.misses ∙ ap (λ (g : _). few_misses (g replica thread)) (sym misses);
              };
        },
        ap length same.lent ∙ noted.1,
      ),
)

pub same-lanes : (f f' : Fields) → Holds f → SameLending f f' → All (IsSpareLane f.job.program.image) f'.lanes
same-lanes f f' h same = subst (All (IsSpareLane f.job.program.image)) (sym same.lanes) h.lanes_are

-- what the fields are behind an entry
pub record Becomes (f f' : Fields) (entry : Entry) : Type 0 where
  pub job : f'.job ≡ f.job
  pub journal : f'.journal ≡ f.journal ++ entry ∷ []
  pub leases : f'.leases ≡ (after f.job (core_in f) entry).leases
  pub noted : AreNoted (after f.job (core_in f) entry) f.job.settings.drivers f'.lent f'.wishes
  pub lanes : All (IsSpareLane f.job.program.image) f'.lanes
  pub setup : f'.kernel.setup ≡ f.kernel.setup
  pub kernel : f'.kernel.kernel ≡ (after f.job (core_in f) entry).kernel
  pub blocked_count : length f'.blocked ≡ 16
  pub blocked : (thread : ℕ) → blocked_at f'.blocked thread ≡ (after f.job (core_in f) entry).blocked thread
  pub unblocked : f'.unblocked ≡ first_unblocked f'.kernel f'.blocked
  pub calm : IsCalm f'.kernel.kernel f'.blocked f'.waits f'.calm
  pub steps : f'.steps ≡ (after f.job (core_in f) entry).steps
  pub scrubbed : f'.scrubbed ≡ (after f.job (core_in f) entry).scrubbed
  pub waits : NotesWaits f'.waits (after f.job (core_in f) entry).waited (length f'.journal)
  pub counts : CountsBytes f'.sent f'.wrote f'.steps (after f.job (core_in f) entry)
  pub due : f'.due ≡ (after f.job (core_in f) entry).due
  pub ended : f'.ended ≡ (after f.job (core_in f) entry).ended
  pub seats : AreSeated f.job (after f.job (core_in f) entry) f'.seats
  pub groups : AreGrouped (after f.job (core_in f) entry).replicas f'.groups
  pub views_count : f'.ended ≡ None → length f'.views ≡ length f'.seats
  pub views_kept : KeepsViews f.job (f.journal ++ entry ∷ []) f'.views
  pub room : length f'.leases + one_end f'.ended ≤ f'.places

module _ (f f' : Fields) (entry : Entry) (h : Holds f) (allowed : IsAllowed f.job (core_in f) entry) (b : Becomes f f' entry) where
  core_is : core_in f' ≡ after f.job (core_in f) entry
  core_is = ap (λ (j : Job). replay j f'.journal) b.job ∙ ap (replay f.job) b.journal ∙ replay_more f.job f.journal entry

  pub holds-step : Holds f'
  holds-step = record {
    in_range = subst (λ (j : Job). InRange j.settings) (sym b.job) h.in_range;
    legal = subst (λ (j : Job). Legal j f'.journal) (sym b.job) (subst (Legal f.job) (sym b.journal) (legal_more f.job f.journal entry h.legal allowed));
    leases_are = b.leases ∙ sym (ap (λ (c : Core). c.leases) core_is);
    noted = subst (λ (j : Job). AreNoted (core_in f') j.settings.drivers f'.lent f'.wishes) (sym b.job) (subst (λ (c : Core). AreNoted c f.job.settings.drivers f'.lent f'.wishes) (sym core_is) b.noted);
    lanes_are = subst (λ (j : Job). All (IsSpareLane j.program.image) f'.lanes) (sym b.job) b.lanes;
    setup_is = b.setup ∙ h.setup_is ∙ ap (λ (j : Job). setup_of j.program) (sym b.job);
    kernel_is = b.kernel ∙ sym (ap (λ (c : Core). c.kernel) core_is);
    blocked_count = b.blocked_count;
    blocked_are = λ t. b.blocked t ∙ sym (ap (λ (c : Core). c.blocked t) core_is);
    unblocked_is = b.unblocked;
    calm_is = b.calm;
    steps_are = b.steps ∙ sym (ap (λ (c : Core). c.steps) core_is);
    scrubbed_are = b.scrubbed ∙ sym (ap (λ (c : Core). c.scrubbed) core_is);
    waits_are = subst (λ (c : Core). NotesWaits f'.waits c.waited (length f'.journal)) (sym core_is) b.waits;
    counts = subst (CountsBytes f'.sent f'.wrote f'.steps) (sym core_is) b.counts;
    due_is = b.due ∙ sym (ap (λ (c : Core). c.due) core_is);
    ended_is = b.ended ∙ sym (ap (λ (c : Core). c.ended) core_is);
    seats_are = subst (λ (j : Job). AreSeated j (core_in f') f'.seats) (sym b.job) (subst (λ (c : Core). AreSeated f.job c f'.seats) (sym core_is) b.seats);
    groups_are = subst (λ (c : Core). AreGrouped c.replicas f'.groups) (sym core_is) b.groups;
    views_count = b.views_count;
    views_kept = subst (λ (j : Job). KeepsViews j f'.journal f'.views) (sym b.job) (subst (λ (js : List Entry). KeepsViews f.job js f'.views) (sym b.journal) b.views_kept);
    room = b.room;
  }

-- no event came
pub same-unblocked : (f f' : Fields) → Holds f → f'.kernel ≡ f.kernel → f'.blocked ≡ f.blocked → f'.unblocked ≡ f.unblocked → f'.unblocked ≡ first_unblocked f'.kernel f'.blocked
same-unblocked f f' h kernel blocked unblocked =
    unblocked ∙ h.unblocked_is ∙ ap (first_unblocked f.kernel) (sym blocked) ∙ ap (λ (k : State). first_unblocked k f'.blocked) (sym kernel)

pub same-calm : (f f' : Fields) → Holds f → f'.kernel ≡ f.kernel → f'.blocked ≡ f.blocked → f'.waits ≡ f.waits → f'.calm ≡ f.calm → IsCalm f'.kernel.kernel f'.blocked f'.waits f'.calm
same-calm f f' h kernel blocked waits calm =
    subst (λ (k : State). IsCalm k.kernel f'.blocked f'.waits f'.calm) (sym kernel)
    (subst (λ (bs : List (Option Call)). IsCalm f.kernel.kernel bs f'.waits f'.calm) (sym blocked)
    (subst (λ (w : Waits). IsCalm f.kernel.kernel f.blocked w f'.calm) (sym waits)
    (subst (IsCalm f.kernel.kernel f.blocked f.waits) (sym calm) h.calm_is)))

-- nor did it change who lives and who is blocked
pub still-calm : (before after : Kernel) (blocked : List (Option Call)) (old new : Waits) (calm own : ℕ) (was : Option Call) → after.lives ≡ before.lives → Notes old new own was → IsCalm before blocked old calm → IsCalm after blocked new calm
still-calm before after blocked old new calm own was same notes h = record {
  soon = let soon = h.soon in let least = notes.least in omega arith;
  each = λ t since there lives unblocked. by t since (ap (λ (xs : List ℕ). slice_get xs t) (sym notes.since) ∙ there) (sym (ap (λ (ls : List Life). live_option (slice_get ls t)) same) ∙ lives) unblocked;
}
  where
    by : (t since : ℕ) → slice_get (slice_set old.since own new.votes) t ≡ Some since → lives_on before t ≡ true → blocked_at blocked t ≡ None → calm ≤ since + 64
    by t since there lives unblocked = elim (get-set-cases old.since own t new.votes since there) [
      | inl other ↦ h.each t since other.1 lives unblocked
      | inr is ↦ let soon = h.soon in let least = notes.least in let now = is.1 in omega arith
    ]

-- a core in which all have waited as long, behind no fewer entries
pub kept-waits : (f f' : Fields) → Holds f → (core : Core) → core.waited ≡ (core_in f).waited → f'.waits ≡ f.waits → length f'.journal ≡ length f.journal → NotesWaits f'.waits core.waited (length f'.journal)
kept-waits f f' h core waited waits same =
    subst (λ (w : Waits). NotesWaits w core.waited (length f'.journal)) (sym waits)
    (subst (λ (n : ℕ → ℕ). NotesWaits f.waits n (length f'.journal)) (sym waited) (record { are = h.waits_are.are; few = let few = h.waits_are.few in omega arith }))

pub same-waits : (f f' : Fields) → Holds f → (core : Core) → core.waited ≡ (core_in f).waited → f'.waits ≡ f.waits → length f'.journal ≡ suc (length f.journal) → NotesWaits f'.waits core.waited (length f'.journal)
same-waits f f' h core waited waits more =
    subst (λ (w : Waits). NotesWaits w core.waited (length f'.journal)) (sym waits)
    (subst (λ (n : ℕ → ℕ). NotesWaits f.waits n (length f'.journal)) (sym waited) (record { are = h.waits_are.are; few = let few = h.waits_are.few in omega arith }))

pub length-more : {X : Type 0} (xs : List X) (x : X) → length (xs ++ x ∷ []) ≡ suc (length xs)
length-more xs x = length-append xs (x ∷ []) ∙ (let e : length xs + 1 ≡ suc (length xs) = omega arith in e)

-- no byte is written
pub same-counts : (f f' : Fields) → Holds f → (core : Core) → core.output ≡ (core_in f).output → core.wrote ≡ 0 → f'.sent ≡ f.sent → f'.wrote ≡ 0 → f'.steps ≡ f.steps → CountsBytes f'.sent f'.wrote f'.steps core
same-counts f f' h core output none sent wrote steps = record {
  sent_are = sent ∙ h.counts.sent_are ∙ ap length (sym output);
  wrote_is = wrote ∙ sym none;
  within = omega arith;
  few = let k = h.counts.few in omega arith;
}

-- the journal goes on where the core has not ended
pub no-outcome : (f : Fields) → Holds f → f.ended ≡ None → outcome_of f.journal ≡ None
no-outcome f h e = sym (ended_is_outcome f.job f.journal h.legal) ∙ sym h.ended_is ∙ e

-- the fields have the outcome of their journal
pub fields-outcome : (f : Fields) → Holds f → f.ended ≡ outcome_of f.journal
fields-outcome f h = h.ended_is ∙ ended_is_outcome f.job f.journal h.legal

-- an end at the limit is not by views
pub limit-keeps : (f : Fields) → Holds f → f.ended ≡ None → (steps next : ℕ) → KeepsViews f.job (f.journal ++ End (Limit steps next) ∷ []) f.views
limit-keeps f h still steps next =
    not-split f.job (f.journal ++ End (Limit steps next) ∷ []) f.views (Limit steps next) (outcome_of-append f.journal (End (Limit steps next) ∷ []) (no-outcome f h still)) (λ (e : Limit steps next ≡ Differ). cc) (λ (e : Limit steps next ≡ NoMajority). cc)

-- what holds of the core that was opened holds of the one that was given
pub with-old : (R : CoreOf → CoreOf → Type 0) {inside old new : CoreOf} → inside ≡ old → R inside new → R old new
with-old R {inside} {old} {new} is r = subst (λ (v : CoreOf). R v new) is r

-- the ranges that the kernel gave lie where they may
pub holds-mapped : (f : Fields) → Holds f → IsMapped f.kernel.kernel.given
holds-mapped f h = subst (λ (k : Kernel). IsMapped k.given) (sym h.kernel_is) (stays-mapped f.job f.journal)
