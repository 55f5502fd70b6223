-- An end that is due, or comes alone, in the fields of a run.
use Rattle.std.proofs.Common.{◌≡◌, ◌⊎◌, inl, inr, ℕ, ◌+◌, ◌-◌, ◌<◌, ◌≤◌, take, List, [], ◌∷◌, ◌++◌, length, Option, Some, None, refl, sym, ap, ◌∙◌, subst, arith}
use Rattle.std.specs.Prelude.{slice_get, unwrap_or}
use Rattle.std.proofs.lemmas.Bool.{and_parts}
use Rattle.std.proofs.lemmas.List.{length-take-le}
use Rattle.ro_journal.specs.declared.How.{How}
use Rattle.ro_journal.specs.declared.How.TheVariants.{Deadlock, Differ, NoMajority, Sink}
use Rattle.ro_journal.specs.declared.Entry.TheVariants.{End}
use Rattle.ro_event.specs.declared.calls.Call.{Call}
use Rattle.ro_kernel.specs.State.{State}
use Rattle.ro_replica.specs.Seen.{ReplicaOf}
use Rattle.ro_legal.specs.Core.{Job, Core}
use Rattle.ro_legal.specs.declared.actions.Action.TheVariants.{End as DoEnd}
use Rattle.ro_legal.specs.Legal.{after, MayEnd, alone, EndsAlone, EndsSink, cut_output}
use Rattle.ro_legal.specs.Action.{next_action, IsNext}
use Rattle.ro_core.specs.Seen.{KeepsViews}
use Rattle.ro_legal.specs.Sound.{IsOver}
use Rattle.ro_core.specs.Fields.{Seated, AreSeated, one_end, Fields, core_in, blocked_at, CountsBytes, Holds}
use Rattle.ro_legal.proofs.Journals.{outcome_of-append}
use Rattle.ro_core.specs.Grouped.{AreGrouped}
use Rattle.ro_legal.proofs.Ordered.{ordered, going-parts}
use Rattle.ro_legal.proofs.Nexts.{end_next, end_is}
use Rattle.ro_core.proofs.Held.{not-split, no-outcome, same-unblocked, same-calm, same-waits, length-more, SameLending, same-noted, same-lanes, holds-step}

end-seated : (job : Job) (core : Core) (seats : List (Option ReplicaOf)) (how : How) → AreSeated job core seats → AreSeated job (after job core (End how)) seats
unfolding after
end-seated job core seats how h = record { count = h.count; each = λ number. by number (slice_get seats number) (h.each number) }
  where
    by : (number : ℕ) (o : Option (Option ReplicaOf)) → Seated job core number o → Seated job (after job core (End how)) number o
    by number None e = tt
    by number (Some None) e = e
    by number (Some (Some value)) s = record { stays = s.stays; own = s.own; replica = s.replica; there = s.there; home = record { threads = s.home.threads; waiting = s.home.waiting; backed = s.home.backed; bytes = record { same = s.home.bytes.same } } }

-- the fields behind an end
pub ended-holds : (f f' : Fields) → Holds f → (how : How) → f.ended ≡ None → MayEnd f.job (core_in f) how → CountsBytes f'.sent f'.wrote f'.steps (after f.job (core_in f) (End how)) → KeepsViews f.job (f.journal ++ End how ∷ []) f'.views
    → f'.job ≡ f.job → f'.kernel ≡ f.kernel → f'.blocked ≡ f.blocked → f'.unblocked ≡ f.unblocked → f'.calm ≡ f.calm → f'.steps ≡ f.steps → f'.scrubbed ≡ f.scrubbed → f'.waits ≡ f.waits → f'.seats ≡ f.seats → f'.groups ≡ f.groups → f'.leases ≡ f.leases → SameLending f f' → f'.due ≡ None → f'.ended ≡ Some how
    → f'.journal ≡ f.journal ++ End how ∷ [] → f.places ≡ f'.places + 1 → Holds f'
unfolding after
ended-holds f f' h how none allowed counts kept job kernel blocked unblocked calm steps scrubbed waits seats groups leases lending due ended journal less = holds-step f f' (End how) h (sym h.ended_is ∙ none, allowed) (record {
  job = job;
  journal = journal;
  leases = leases ∙ h.leases_are;
  noted = same-noted f f' h lending (after f.job (core_in f) (End how)) refl refl refl refl refl;
  lanes = same-lanes f f' h lending;
  setup = ap (λ (k : State). k.setup) kernel;
  kernel = ap (λ (k : State). k.kernel) kernel ∙ h.kernel_is;
  blocked_count = ap length blocked ∙ h.blocked_count;
  blocked = λ t. ap (λ (bs : List (Option Call)). blocked_at bs t) blocked ∙ h.blocked_are t;
  unblocked = same-unblocked f f' h kernel blocked unblocked;
  calm = same-calm f f' h kernel blocked waits calm;
  steps = steps ∙ h.steps_are;
  scrubbed = scrubbed ∙ h.scrubbed_are;
  waits = same-waits f f' h (after f.job (core_in f) (End how)) refl waits (ap length journal ∙ length-more f.journal (End how));
  counts = counts;
  due = due;
  ended = ended;
  seats = subst (AreSeated f.job (after f.job (core_in f) (End how))) (sym seats) (end-seated f.job (core_in f) f.seats how h.seats_are);
  groups = subst (AreGrouped (core_in f).replicas) (sym groups) h.groups_are;
  views_count = λ unended. absurd (let g : Some how ≡ None = sym ended ∙ unended in cc);
  views_kept = kept;
  room = let k = h.room in let one : one_end f.ended ≡ 1 = ap one_end none in let no : one_end f'.ended ≡ 0 = ap one_end ended in let n : length f'.leases ≡ length f.leases = ap length leases in omega arith;
})

-- an end that is not the sink's cuts nothing
pub cut-none : (core : Core) (how : How) → ((bytes : ℕ) → how ≡ Sink bytes → ⊥) → cut_output core how ≡ core.output
cut-none core (Sink bytes) not_sink = absurd (not_sink bytes refl)
cut-none core how not_sink = refl

-- how many bytes are left of so many, of which the last entry wrote these, where a failing sink took so many of them
pub cut-length : (core : Core) (taken : ℕ) → taken ≤ core.wrote → core.wrote ≤ length core.output → length (cut_output core (Sink taken)) ≡ length core.output - (core.wrote - taken)
cut-length core taken less within =
    let e : length (take (length core.output - core.wrote + taken) core.output) ≡ length core.output - core.wrote + taken = length-take-le (length core.output - core.wrote + taken) core.output (omega arith) in
    omega (arith, e)

-- ---- an end that is due, or comes alone

-- an end that comes next, or alone
abbrev Comes : Job → Core → How → Type 0
Comes job core how = (next_action job core ≡ DoEnd how) ⊎ EndsAlone job core how

module _ (f : Fields) (h : Holds f) (how : How) (now : Comes f.job (core_in f) how) where
  -- no end has come
  alone-open : (so : How) → EndsAlone f.job (core_in f) so → (core_in f).ended ≡ None
  alone-open Deadlock stuck = (going-parts (core_in f) (and_parts _ _ (and_parts _ _ stuck).0).0).1
  alone-open (Sink bytes) e = (going-parts (core_in f) e.0).1
  alone-open so e = absurd e

  now-open : Comes f.job (core_in f) how → (core_in f).ended ≡ None
  now-open (inl next) = (end_next f.job (core_in f) how next).0
  now-open (inr e) = alone-open how e

  pub end-not-over : (core_in f).ended ≡ None
  end-not-over = now-open now

  ended-none : f.ended ≡ None
  ended-none = h.ended_is ∙ end-not-over

  -- it is allowed
  pub end-allowed : MayEnd f.job (core_in f) how
  end-allowed = by now
    where
      by : Comes f.job (core_in f) how → MayEnd f.job (core_in f) how
      by (inl next) = (end_next f.job (core_in f) how next).1
      by (inr e) = alone e

  -- an end that comes next is an exit, a trap or a deadlock; one that comes alone a deadlock or a failing sink's
  next-over : next_action f.job (core_in f) ≡ DoEnd how → IsOver how ⊎ (how ≡ Deadlock)
  next-over next = by (core_in f).due refl
    where
      by : (o : Option How) → (core_in f).due ≡ o → IsOver how ⊎ (how ≡ Deadlock)
      by None e = inr (sym (sym (ap (λ (o : Option How). unwrap_or o Deadlock) e) ∙ end_is f.job (core_in f) how next))
      by (Some other) e = inl (subst IsOver (sym (ap (λ (o : Option How). unwrap_or o Deadlock) e) ∙ end_is f.job (core_in f) how next) ((ordered f.job f.journal h.legal).due_over other e))

  -- so it is not by views that differ
  no-views-end : (so : How) → (IsOver so → ⊥) → (so ≡ Deadlock → ⊥) → (EndsAlone f.job (core_in f) so → ⊥) → how ≡ so → ⊥
  no-views-end so over stuck by_itself is = by now
    where
      next : IsOver how ⊎ (how ≡ Deadlock) → ⊥
      next (inl o) = over (subst IsOver is o)
      next (inr e) = stuck (sym is ∙ e)

      by : Comes f.job (core_in f) how → ⊥
      by (inl n) = next (next-over n)
      by (inr e) = by_itself (subst (EndsAlone f.job (core_in f)) is e)

  pub not-by-views : ((how ≡ Differ → ⊥) × (how ≡ NoMajority → ⊥))
  not-by-views = (
    no-views-end Differ (λ h. elim h [ ]) (λ (e : Differ ≡ Deadlock). cc) (λ e. e),
    no-views-end NoMajority (λ h. elim h [ ]) (λ (e : NoMajority ≡ Deadlock). cc) (λ e. e),
  )

  -- a failing sink's end comes alone, and did not take all of the last write
  end-cuts : (taken : ℕ) → how ≡ Sink taken → taken < f.wrote
  end-cuts taken is = by now
    where
      next : IsOver how ⊎ (how ≡ Deadlock) → taken < f.wrote
      next (inl o) = elim (subst IsOver is o) [ ]
      next (inr e) = absurd (let g : Sink taken ≡ Deadlock = sym is ∙ e in cc)

      by : Comes f.job (core_in f) how → taken < f.wrote
      by (inl n) = next (next-over n)
      by (inr e) = (let less : taken < (core_in f).wrote = (subst (EndsAlone f.job (core_in f)) is e).1 in let w = h.counts.wrote_is in omega arith)

  -- what the sink took
  pub end-took : (taken : ℕ) → how ≡ Sink taken → (taken ≤ f.wrote) × (f.wrote ≤ f.sent)
  end-took taken is = (let less = end-cuts taken is in omega (arith, less), h.counts.within)

  pub end-room : 0 < f.places
  end-room = let e : one_end f.ended ≡ 1 = ap one_end ended-none in let k = h.room in omega arith

  -- what was written, less what the sink did not take
  end-counts-sink : (taken sent : ℕ) → how ≡ Sink taken → sent ≡ f.sent - (f.wrote - taken) → CountsBytes sent 0 f.steps (after f.job (core_in f) (End how))
  unfolding after
  end-counts-sink taken sent is count =
      let less = end-cuts taken is in
      let w = h.counts.wrote_is in
      let s = h.counts.sent_are in
      let within = h.counts.within in
      let cut : length (cut_output (core_in f) how) ≡ length (core_in f).output - ((core_in f).wrote - taken) =
      ap (λ (x : How). length (cut_output (core_in f) x)) is ∙ cut-length (core_in f) taken (omega arith) (omega arith) in
      record {
        sent_are = omega (arith, cut);
        wrote_is = refl;
        within = omega arith;
        few = let few = h.counts.few in omega arith;
      }

  end-counts-other : ((taken : ℕ) → how ≡ Sink taken → ⊥) → CountsBytes f.sent 0 f.steps (after f.job (core_in f) (End how))
  unfolding after
  end-counts-other other = record {
    sent_are = h.counts.sent_are ∙ ap length (sym (cut-none (core_in f) how other));
    wrote_is = refl;
    within = omega arith;
    few = h.counts.few;
  }

  pub end-counts : (sent : ℕ) → ((taken : ℕ) → how ≡ Sink taken → sent ≡ f.sent - (f.wrote - taken)) → (((taken : ℕ) → how ≡ Sink taken → ⊥) → sent ≡ f.sent) → CountsBytes sent 0 f.steps (after f.job (core_in f) (End how))
  end-counts sent cut whole = by how refl
    where
      kept : ((taken : ℕ) → how ≡ Sink taken → ⊥) → CountsBytes sent 0 f.steps (after f.job (core_in f) (End how))
      kept other = subst (λ (n : ℕ). CountsBytes n 0 f.steps (after f.job (core_in f) (End how))) (sym (whole other)) (end-counts-other other)

      by : (so : How) → how ≡ so → CountsBytes sent 0 f.steps (after f.job (core_in f) (End how))
      by (Sink taken) e = end-counts-sink taken sent e (cut taken e)
      by so e = kept (λ taken g. let k : so ≡ Sink taken = sym e ∙ g in cc)

  pub end-holds : (f' : Fields) → CountsBytes f'.sent f'.wrote f'.steps (after f.job (core_in f) (End how)) → f'.job ≡ f.job → f'.kernel ≡ f.kernel → f'.blocked ≡ f.blocked → f'.unblocked ≡ f.unblocked → f'.calm ≡ f.calm → f'.steps ≡ f.steps → f'.scrubbed ≡ f.scrubbed → f'.waits ≡ f.waits → f'.seats ≡ f.seats → f'.groups ≡ f.groups → f'.leases ≡ f.leases → SameLending f f' → f'.due ≡ None → f'.ended ≡ Some how
      → f'.journal ≡ f.journal ++ End how ∷ [] → f.places ≡ f'.places + 1 → Holds f'
  end-holds f' counts = ended-holds f f' h how ended-none end-allowed counts (not-split f.job _ f'.views how (outcome_of-append f.journal (End how ∷ []) (no-outcome f h ended-none)) not-by-views.0 not-by-views.1)

-- one that is next, or that of a failing sink, comes next
pub comes-next : (job : Job) (core : Core) (how : How) → (next_action job core ≡ DoEnd how) ⊎ EndsSink core how → IsNext job core (End how)
comes-next job core how (inl next) = inl next
comes-next job core how (inr sink) = inr (inl sink)
